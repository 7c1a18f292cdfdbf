-- Lists that are looked up by number, where beyond the end nothing is set.
use Rattle.std.specs.Prelude.{◌≡◌, ◌<◌, ◌↔◌, ℕ, List, [], ◌∷◌, Bool, true, false, Option, MatchOption, slice_get, ◌⊎◌}
use Rattle.std.specs.List.{AllByRecursion}
use Rattle.std.specs.Option.{option_map_or, option_and_then}
use Rattle.ciel_journal.specs.Job.{In}

-- the flag of a number
abbrev pub flag : List Bool → ℕ → Bool
flag flags i = option_map_or (λ b. b) (slice_get flags i) false

-- the list of a number
abbrev pub at : List (List ℕ) → ℕ → List ℕ
at lists i = option_map_or (λ x. x) (slice_get lists i) []

-- the entry of a number, if it has one
abbrev pub entry : List (Option ℕ) → ℕ → Option ℕ
entry numbers i = option_and_then (λ o. o) (slice_get numbers i)

-- each is above those before it
abbrev pub Rising : List ℕ → Type 0
Rising [] = Unit {0}
Rising (x ∷ xs) = AllByRecursion (λ y. x < y) xs × Rising xs

-- what was there, and x
abbrev pub HasAlso : ℕ → List ℕ → List ℕ → Type 0
HasAlso x old new = (y : ℕ) → In y new ↔ ((y ≡ x) ⊎ In y old)

-- what was there, but for x
abbrev pub HasBut : ℕ → List ℕ → List ℕ → Type 0
HasBut x old new = (y : ℕ) → In y new ↔ (In y old × (y ≡ x → ⊥))

-- some whose flags are set were taken off; what is left is empty, or has one whose flag isn't set
pub record Settled (flags : List Bool) (old new : List ℕ) (top : Option ℕ) : Type 0 where
  pub inside : (x : ℕ) → In x new → In x old
  pub left : (x : ℕ) → In x old → In x new ⊎ (flag flags x ≡ true)
  pub ends : MatchOption top (new ≡ []) (λ x. In x new × (flag flags x ≡ false))
