-- Lists that are gone through from the first on: what is left has the answer of all.
use Rattle.std.proofs.Common.{◌≡◌, ◌≤◌, ◌<◌, ◌+◌, ℕ, List, [], ◌∷◌, Bool, true, false, not, ◌&&◌, ◌||◌, length, get_or, drop, refl, ap, sym, ◌∙◌}
use Rattle.ciel_look_words.proofs.ManyWords.{dropped, dropped_all}

module _ {A B : Type 0} (P : List A → B) (xs : List A) where
  -- those before this place say nothing
  abbrev pub Same : ℕ → Type 0
  Same i = P (drop i xs) ≡ P xs

  pub same_here : (i : ℕ) (x : A) → i < length xs → x ≡ get_or xs i x → Same i → P xs ≡ P (x ∷ drop (i + 1) xs)
  same_here i x h e s = sym s ∙ ap P (dropped xs i x h e)

  pub same_next : (i : ℕ) (x : A) → i < length xs → x ≡ get_or xs i x → P (x ∷ drop (i + 1) xs) ≡ P (drop (i + 1) xs) → Same i → Same (i + 1)
  same_next i x h e p s = sym p ∙ sym (same_here i x h e s)

  pub same_end : (i : ℕ) → length xs ≤ i → Same i → P xs ≡ P []
  same_end i h s = sym s ∙ ap P (dropped_all xs i h)

pub and_false : (a b : Bool) → b ≡ false → (a && b) ≡ false
and_false true b h = h
and_false false b h = refl

pub or_true : (a b : Bool) → a ≡ true → (a || b) ≡ true
or_true true b h = refl
or_true false b h = absurd cc

pub or_right : (a b : Bool) → b ≡ true → (a || b) ≡ true
or_right true b h = refl
or_right false b h = h

pub or_false : (a : Bool) → (a || false) ≡ a
or_false true = refl
or_false false = refl
