-- Members of a list that are picked by their places.
use Rattle.std.proofs.Common.{◌≡◌, ◌≤◌, ◌<◌, ◌+◌, ℕ, zero, suc, List, [], ◌∷◌, ◌++◌, length, map, get_or, take, slice_get, Option, Some, None}
use Rattle.std.proofs.Common.{arith, refl, ap, sym, ◌∙◌, append-nil}
use Rattle.std.proofs.lemmas.Grind.{flat_map-append}
use Rattle.std.proofs.lemmas.List.{map-append}
use Rattle.ciel_look_tasks.specs.SceneView.{one_of, picked}

pub take_next : {A : Type 0} (xs : List A) (i : ℕ) (x : A) → i < length xs → x ≡ get_or xs i x → take (i + 1) xs ≡ take i xs ++ x ∷ []
take_next [] i x h e = absurd (omega (arith, h))
take_next (y ∷ xs) zero x h e = ap (λ z. z ∷ []) (sym e)
take_next (y ∷ xs) (suc i) x h e =
    let next : suc i + 1 ≡ suc (i + 1) = omega arith in
    rw next (ap (λ zs. y ∷ zs) (take_next xs i x (omega (arith, h)) e))

pub take_all : {A : Type 0} (xs : List A) (i : ℕ) → length xs ≤ i → take i xs ≡ xs
take_all [] zero h = refl
take_all [] (suc i) h = refl
take_all (x ∷ xs) zero h = absurd (omega (arith, h))
take_all (x ∷ xs) (suc i) h = ap (λ ys. x ∷ ys) (take_all xs i (omega (arith, h)))

module _ {A B : Type 0} (f : A → B) (xs : List A) where
  pub picked_next : (places : List ℕ) (i p : ℕ) → i < length places → p ≡ get_or places i p
      → map f (picked xs (take (i + 1) places)) ≡ map f (picked xs (take i places)) ++ map f (one_of (slice_get xs p))
  picked_next places i p h e =
      ap (λ ps. map f (picked xs ps)) (take_next places i p h e)
      ∙ ap (map f) (flat_map-append (λ q. one_of (slice_get xs q)) (take i places) (p ∷ []))
      ∙ ap (λ ys. map f (picked xs (take i places) ++ ys)) (append-nil (one_of (slice_get xs p)))
      ∙ map-append f (picked xs (take i places)) (one_of (slice_get xs p))

  pub picked_all : (places : List ℕ) (i : ℕ) → length places ≤ i → map f (picked xs (take i places)) ≡ map f (picked xs places)
  picked_all places i h = ap (λ ps. map f (picked xs ps)) (take_all places i h)
