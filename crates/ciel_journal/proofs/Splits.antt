-- What is made, cut at waits.
use Rattle.std.proofs.Common.{◌≡◌, ℕ, zero, suc, ◌-◌, ◌≤◌, List, [], ◌∷◌, ◌++◌, length, Some, inl, inr, refl, ap, sym, ◌∙◌, subst, arith, slice_get}
use Rattle.ciel_journal.specs.Job.{Act, made, wait, In, Each, after_wait, made_before, made_in}

pub get_short : {A : Type 0} (xs : List A) (i : ℕ) (x : A) → slice_get xs i ≡ Some x → suc i ≤ length xs
get_short [] i x h = cc
get_short (y ∷ ys) zero x h = omega arith
get_short (y ∷ ys) (suc i) x h = let a = get_short ys i x h in omega (arith, a)

module _ {D : Type 0} where
  -- what is made stands before a wait or after it
  pub made_split : (j : ℕ) (xs : List (Act D)) → made_in xs ≡ made_before j xs ++ made_in (after_wait j xs)
  made_split zero xs = refl
  made_split (suc j) [] = refl
  made_split (suc j) (made d ∷ xs) = ap (λ ds. d ∷ ds) (made_split (suc j) xs)
  made_split (suc j) (wait ds ∷ xs) = made_split j xs

  before_none : (j : ℕ) → (xs : List (Act D)) → xs ≡ [] → made_before j xs ≡ []
  before_none zero xs e = refl
  before_none (suc j) xs e = ap (made_before (suc j)) e

  -- what is made before a wait stands before an earlier one or after that
  pub before_split : (j i : ℕ) (xs : List (Act D)) → j ≤ i → made_before i xs ≡ made_before j xs ++ made_before (i - j) (after_wait j xs)
  before_split zero i xs l =
      let e : i ≡ i - 0 = omega arith in ap (λ k. made_before k xs) e
  before_split (suc j) zero xs l = absurd (omega (arith, l))
  before_split (suc j) (suc i) [] l = sym (before_none (suc i - suc j) [] refl)
  before_split (suc j) (suc i) (made d ∷ xs) l = ap (λ ds. d ∷ ds) (before_split (suc j) (suc i) xs l)
  before_split (suc j) (suc i) (wait ds ∷ xs) l =
      let e : i - j ≡ suc i - suc j = omega arith in
      before_split j i xs (omega (arith, l)) ∙ ap (λ k. made_before j xs ++ made_before k (after_wait j xs)) e

  each_right : (P : D → Type 0) (xs ys : List D) → Each P (xs ++ ys) → Each P ys
  each_right P [] ys h = h
  each_right P (x ∷ xs) ys h = each_right P xs ys h.1

  -- what is made after a wait, and before a later one
  pub later_part : (P : D → Type 0) (xs : List (Act D)) (j : ℕ) (ds : List D) → ds ≡ made_in (after_wait j xs) → Each P (made_in xs) → Each P ds
  later_part P xs j ds e h =
      subst (Each P) (sym e) (each_right P (made_before j xs) (made_in (after_wait j xs)) (subst (Each P) (made_split j xs) h))

  pub part_before : (P : D → Type 0) (xs : List (Act D)) (j i : ℕ) (ds : List D) → j ≤ i → ds ≡ made_before (i - j) (after_wait j xs)
      → Each P (made_before i xs) → Each P ds
  part_before P xs j i ds l e h =
      subst (Each P) (sym e) (each_right P (made_before j xs) (made_before (i - j) (after_wait j xs)) (subst (Each P) (before_split j i xs l) h))

  -- what is made before a wait is made
  pub before_in : (a : ℕ) (es : List (Act D)) (d : D) → In d (made_before a es) → In d (made_in es)
  before_in zero es d i = absurd i
  before_in (suc a) [] d i = absurd i
  before_in (suc a) (made x ∷ es) d (inl s) = inl s
  before_in (suc a) (made x ∷ es) d (inr i) = inr (before_in (suc a) es d i)
  before_in (suc a) (wait ds ∷ es) d i = before_in a es d i

  -- and so is what is made after one
  pub made_after_in : (j : ℕ) (xs : List (Act D)) (d : D) → In d (made_in (after_wait j xs)) → In d (made_in xs)
  made_after_in zero xs d i = i
  made_after_in (suc j) [] d i = absurd i
  made_after_in (suc j) (made x ∷ xs) d i = inr (made_after_in (suc j) xs d i)
  made_after_in (suc j) (wait ds ∷ xs) d i = made_after_in j xs d i

  pub made_between_in : (j a : ℕ) (xs : List (Act D)) (d : D) → In d (made_before a (after_wait j xs)) → In d (made_in xs)
  made_between_in j a xs d i = made_after_in j xs d (before_in a (after_wait j xs) d i)
