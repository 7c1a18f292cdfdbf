-- Lists that are looked up by number.
use Rattle.std.proofs.Common.{◌≡◌, ℕ, zero, suc, ◌≤◌, ◌<◌, List, [], ◌∷◌, ◌++◌, length, Bool, true, false, not, ◌&&◌, Result, Ok, Err, OnOk, set}
use Rattle.std.proofs.Common.{slice_get, refl, ap, sym, ◌∙◌, arith, ◌⊎◌, inl, inr, Option, Some, nat_eq, eqb-true, eq-eqb}
use Rattle.std.specs.Option.{option_map_or}
use Rattle.ciel_journal.specs.Job.{In}
use Rattle.ciel_journal.proofs.Members.{bool_cases}
use Rattle.ciel_want_marks.specs.Lists.{at, entry, flag}

pub nat_cases : (a b : ℕ) → (a ≡ b) ⊎ (a ≡ b → ⊥)
nat_cases a b = turn (bool_cases (nat_eq a b))
  where
    turn : ((nat_eq a b ≡ true) ⊎ (nat_eq a b ≡ false)) → (a ≡ b) ⊎ (a ≡ b → ⊥)
    turn (inl t) = inl (eqb-true a b t)
    turn (inr f) = inr (λ s. let t : true ≡ false = sym (eq-eqb a b s) ∙ f in cc)

pub not_both : {A : Type 0} (b : Bool) → b ≡ true → b ≡ false → A
not_both b t f = let e : true ≡ false = sym t ∙ f in cc

-- ---- members

module _ {A : Type 0} where
  pub in_last : (xs : List A) (x : A) → In x (xs ++ x ∷ [])
  in_last [] x = inl refl
  in_last (y ∷ ys) x = inr (in_last ys x)

  pub in_left : (xs ys : List A) (x : A) → In x xs → In x (xs ++ ys)
  in_left [] ys x h = absurd h
  in_left (z ∷ zs) ys x (inl s) = inl s
  in_left (z ∷ zs) ys x (inr h) = inr (in_left zs ys x h)

  pub in_push : (xs : List A) (y x : A) → In x (xs ++ y ∷ []) → In x xs ⊎ (x ≡ y)
  in_push [] y x (inl s) = inr s
  in_push [] y x (inr h) = absurd h
  in_push (z ∷ zs) y x (inl s) = inl (inl s)
  in_push (z ∷ zs) y x (inr h) = turn (in_push zs y x h)
    where
      turn : (In x zs ⊎ (x ≡ y)) → In x (z ∷ zs) ⊎ (x ≡ y)
      turn (inl k) = inl (inr k)
      turn (inr s) = inr s

  -- ---- what is set

  pub get_here : (xs : List A) (i : ℕ) (x : A) → i < length xs → slice_get (set xs i x) i ≡ Some x
  get_here [] i x l = absurd (omega (arith, l))
  get_here (y ∷ ys) zero x l = refl
  get_here (y ∷ ys) (suc i) x l = get_here ys i x (omega (arith, l))

  pub get_other : (xs : List A) (i e : ℕ) (x : A) → (e ≡ i → ⊥) → slice_get (set xs i x) e ≡ slice_get xs e
  get_other [] i e x h = refl
  get_other (y ∷ ys) zero zero x h = absurd (h refl)
  get_other (y ∷ ys) zero (suc e) x h = refl
  get_other (y ∷ ys) (suc i) zero x h = refl
  get_other (y ∷ ys) (suc i) (suc e) x h = get_other ys i e x (λ s. h (ap suc s))

  pub get_within : (xs : List A) (i : ℕ) (x : A) → slice_get xs i ≡ Some x → i < length xs
  get_within [] i x h = cc
  get_within (y ∷ ys) zero x h = omega arith
  get_within (y ∷ ys) (suc i) x h = let l = get_within ys i x h in omega (arith, l)

  pub set_last : (xs : List A) (x y : A) → set (xs ++ x ∷ []) (length xs) y ≡ xs ++ y ∷ []
  set_last [] x y = refl
  set_last (z ∷ zs) x y = ap (λ l. z ∷ l) (set_last zs x y)

  pub get_last : (xs : List A) (x : A) → slice_get (xs ++ x ∷ []) (length xs) ≡ Some x
  get_last [] x = refl
  get_last (z ∷ zs) x = get_last zs x

  -- one more doesn't change those before
  pub get_before : (xs : List A) (x : A) (i : ℕ) → i < length xs → slice_get (xs ++ x ∷ []) i ≡ slice_get xs i
  get_before [] x i l = absurd (omega (arith, l))
  get_before (z ∷ zs) x zero l = refl
  get_before (z ∷ zs) x (suc i) l = get_before zs x i (omega (arith, l))

pub flag_here : (fs : List Bool) (i : ℕ) (b : Bool) → i < length fs → flag (set fs i b) i ≡ b
flag_here fs i b l = ap (λ o. option_map_or (λ b. b) o false) (get_here fs i b l)

pub flag_other : (fs : List Bool) (i e : ℕ) (b : Bool) → (e ≡ i → ⊥) → flag (set fs i b) e ≡ flag fs e
flag_other fs i e b h = ap (λ o. option_map_or (λ b. b) o false) (get_other fs i e b h)

pub flag_within : (fs : List Bool) (i : ℕ) → flag fs i ≡ true → i < length fs
flag_within [] i h = cc
flag_within (f ∷ fs) zero h = omega arith
flag_within (f ∷ fs) (suc i) h = let l = flag_within fs i h in omega (arith, l)

-- a flag that is set stays so where flags are set
pub flag_kept : (fs : List Bool) (i e : ℕ) → flag fs e ≡ true → flag (set fs i true) e ≡ true
flag_kept [] i e h = cc
flag_kept (f ∷ fs) zero zero h = refl
flag_kept (f ∷ fs) zero (suc e) h = h
flag_kept (f ∷ fs) (suc i) zero h = h
flag_kept (f ∷ fs) (suc i) (suc e) h = flag_kept fs i e h

-- and one that isn't set, where flags are taken away
pub flag_off : (fs : List Bool) (i e : ℕ) → flag fs e ≡ false → flag (set fs i false) e ≡ false
flag_off [] i e h = h
flag_off (f ∷ fs) zero zero h = refl
flag_off (f ∷ fs) zero (suc e) h = h
flag_off (f ∷ fs) (suc i) zero h = h
flag_off (f ∷ fs) (suc i) (suc e) h = flag_off fs i e h

pub at_here : (ls : List (List ℕ)) (i : ℕ) (l : List ℕ) → i < length ls → at (set ls i l) i ≡ l
at_here ls i l k = ap (λ o. option_map_or (λ x. x) o []) (get_here ls i l k)

pub at_other : (ls : List (List ℕ)) (i e : ℕ) (l : List ℕ) → (e ≡ i → ⊥) → at (set ls i l) e ≡ at ls e
at_other ls i e l h = ap (λ o. option_map_or (λ x. x) o []) (get_other ls i e l h)

-- what is pushed to one list leaves what was in each
pub at_pushed : (ls : List (List ℕ)) (i e x y : ℕ) → In y (at ls e) → In y (at (set ls i (at ls i ++ x ∷ [])) e)
at_pushed [] i e x y h = h
at_pushed (l ∷ ls) zero zero x y h = in_left l (x ∷ []) y h
at_pushed (l ∷ ls) zero (suc e) x y h = h
at_pushed (l ∷ ls) (suc i) zero x y h = h
at_pushed (l ∷ ls) (suc i) (suc e) x y h = at_pushed ls i e x y h

pub entry_within : (es : List (Option ℕ)) (i x : ℕ) → entry es i ≡ Some x → i < length es
entry_within [] i x h = cc
entry_within (e ∷ es) zero x h = omega arith
entry_within (e ∷ es) (suc i) x h = let l = entry_within es i x h in omega (arith, l)

-- ---- one more, where nothing is

pub flag_more : (fs : List Bool) (e : ℕ) → flag (fs ++ false ∷ []) e ≡ flag fs e
flag_more [] zero = refl
flag_more [] (suc e) = refl
flag_more (f ∷ fs) zero = refl
flag_more (f ∷ fs) (suc e) = flag_more fs e

pub at_more : (ls : List (List ℕ)) (e : ℕ) → at (ls ++ [] ∷ []) e ≡ at ls e
at_more [] zero = refl
at_more [] (suc e) = refl
at_more (l ∷ ls) zero = refl
at_more (l ∷ ls) (suc e) = at_more ls e

pub not_true : (b : Bool) → not b ≡ true → b ≡ false
not_true true h = cc
not_true false h = refl

pub not_false : (b : Bool) → not b ≡ false → b ≡ true
not_false true h = refl
not_false false h = cc

pub both_true : (b c : Bool) → b && c ≡ true → (b ≡ true) × (c ≡ true)
both_true true c h = (refl, h)
both_true false c h = cc

pub on_ok : {T E A B : Type 0} (r : Result T E) → (A → B) → OnOk r A → OnOk r B
on_ok (Ok x) f h = f h
on_ok (Err e) f h = h

-- beyond the end nothing is set
pub set_beyond : {A : Type 0} (xs : List A) (i : ℕ) (x : A) → length xs ≤ i → xs ≡ set xs i x
set_beyond [] i x l = refl
set_beyond (y ∷ ys) zero x l = absurd (omega (arith, l))
set_beyond (y ∷ ys) (suc i) x l = ap (λ zs. y ∷ zs) (set_beyond ys i x (omega (arith, l)))

pub at_beyond : (ls : List (List ℕ)) (i : ℕ) → length ls ≤ i → at ls i ≡ []
at_beyond [] i l = refl
at_beyond (y ∷ ys) zero l = absurd (omega (arith, l))
at_beyond (y ∷ ys) (suc i) l = at_beyond ys i (omega (arith, l))
