-- Things that stand in front of bytes: `f` gives the bytes of a thing, and P says which things are meant.
use Rattle.std.specs.Prelude.{◌≡◌, ◌<◌, ◌^◌, ℕ, List, ◌++◌, length, flat_map}
use Rattle.sky_base_law.specs.Tasks.{Each}

module _ {A : Type 0} (f : A → List ℕ) (P : A → Type 0) where
  -- x stands in front, and then the rest
  abbrev pub ReadAs : List ℕ → A → List ℕ → Type 0
  ReadAs old x new = (old ≡ f x ++ new) × P x

  -- nothing such does
  abbrev pub NoneAs : List ℕ → Type 0
  NoneAs old = (x : A) (rest : List ℕ) → P x → old ≡ f x ++ rest → ⊥

  -- no such thing's bytes begin another's
  abbrev pub Free : Type 0
  Free = (x y : A) (r s : List ℕ) → P x → P y → f x ++ r ≡ f y ++ s → (x ≡ y) × (r ≡ s)

  -- so many stand in front, one behind the other
  abbrev pub ListRead : ℕ → List ℕ → List A → List ℕ → Type 0
  ListRead n old xs new = (old ≡ flat_map f xs ++ new) × (Each P xs × (length xs ≡ n))

  abbrev pub NoList : ℕ → List ℕ → Type 0
  NoList n old = (xs : List A) (rest : List ℕ) → Each P xs → length xs ≡ n → old ≡ flat_map f xs ++ rest → ⊥

-- the number has 32 bits
abbrev pub Fits32 : ℕ → Type 0
Fits32 n = n < 2 ^ 32

-- there are fewer than 2^32, each of which is meant
abbrev pub Counted : {A : Type 0} → (A → Type 0) → List A → Type 0
Counted P xs = Fits32 (length xs) × Each P xs
