-- What a task makes from one wait to a later one, in two parts; and what more fuel keeps.
use Rattle.std.proofs.Common.{◌≡◌, ◌≢◌, ℕ, zero, suc, ◌+◌, ◌-◌, ◌≤◌, List, [], ◌∷◌, ◌++◌, Some, None, slice_get, refl, sym, ap, ◌∙◌, arith}
use Rattle.sky_base.specs.Read.{Act, made, waited, see_all}
use Rattle.sky_base.specs.See.{Desc, Obj, Job, Around, see}
use Rattle.sky_base.specs.Needed.{Task, State, wait_at, stands_at}
use Rattle.sky_base_law.specs.Tasks.{waits_in, after_wait, made_before, made_in, acts_of, made_between, made_after}
use Rattle.sky_base_law.proofs.SeenLaw.{on, on_is, kept_is, kept_on, all_kept, see_kept, wait_kept, stands_kept}
use Rattle.sky_base_law.proofs.TaskFuel.{waits_at}

some_not : {A : Type 0} (a : A) → Some a ≢ None
some_not a e = cc

module _ {N : Type 0} where
  none_after : (a : ℕ) → after_wait {N = N} a [] ≡ []
  none_after zero = refl
  none_after (suc a) = refl

  none_made : (a : ℕ) → made_before {N = N} a [] ≡ []
  none_made zero = refl
  none_made (suc a) = refl

  -- in two parts
  made_two : (m a b : ℕ) (done : List (Act N)) → m ≡ a + b → made_before m done ≡ made_before a done ++ made_before b (after_wait a done)
  made_two m zero b done e = let is : m ≡ b = omega (arith, e) in ap (λ k. made_before k done) is
  made_two zero (suc a) b done e = absurd (omega (arith, e))
  made_two (suc m) (suc a) b [] e = sym (none_made b)
  made_two (suc m) (suc a) b (made d ∷ done) e = ap (λ ds. d ∷ ds) (made_two (suc m) (suc a) b done e)
  made_two (suc m) (suc a) b (waited ds ∷ done) e = made_two m a b done (omega (arith, e))

  made_all : (a : ℕ) (done : List (Act N)) → made_in done ≡ made_before a done ++ made_in (after_wait a done)
  made_all zero done = refl
  made_all (suc a) [] = refl
  made_all (suc a) (made d ∷ done) = ap (λ ds. d ∷ ds) (made_all (suc a) done)
  made_all (suc a) (waited ds ∷ done) = made_all a done

  after_two : (m j a : ℕ) (done : List (Act N)) → m ≡ j + a → after_wait a (after_wait j done) ≡ after_wait m done
  after_two m zero a done e = let is : a ≡ m = omega (arith, e) in ap (λ k. after_wait k done) is
  after_two zero (suc j) a done e = absurd (omega (arith, e))
  after_two (suc m) (suc j) a [] e = none_after a
  after_two (suc m) (suc j) a (made d ∷ done) e = after_two (suc m) (suc j) a done e
  after_two (suc m) (suc j) a (waited ds ∷ done) e = after_two m j a done (omega (arith, e))

  -- nothing is done behind a wait that there isn't
  none_behind : (j : ℕ) (done : List (Act N)) → slice_get (waits_in done) j ≡ None → after_wait (suc j) done ≡ []
  none_behind j [] e = refl
  none_behind j (made d ∷ done) e = none_behind j done e
  none_behind zero (waited ds ∷ done) e = absurd (some_not ds e)
  none_behind (suc j) (waited ds ∷ done) e = none_behind j done e

module _ (job : Job) (around : Around) where
  pub between_two : (n : ℕ) (t : Task) (j k i : ℕ) → j ≤ k → k ≤ i → made_between job around n t j i ≡ made_between job around n t j k
      ++ made_between job around n t k i
  between_two n t j k i le lk =
      let done = acts_of job around n t in
      made_two (i - j) (k - j) (i - k) (after_wait j done) (omega (arith, le, lk))
      ∙ ap (λ x. made_before (k - j) (after_wait j done) ++ made_before (i - k) x) (after_two k j (k - j) done (omega (arith, le)))

  pub after_between : (n : ℕ) (t : Task) (j k : ℕ) → j ≤ k → made_after job around n t j ≡ made_between job around n t j k
      ++ made_after job around n t k
  after_between n t j k le =
      let done = acts_of job around n t in
      made_all (k - j) (after_wait j done)
      ∙ ap (λ x. made_before (k - j) (after_wait j done) ++ made_in x) (after_two k j (k - j) done (omega (arith, le)))

  -- up to a wait nothing is made from it on
  pub between_none : (n : ℕ) (t : Task) (j : ℕ) → made_between job around n t j j ≡ []
  between_none n t j =
      let none : j - j ≡ 0 = omega arith in
      ap (λ m. made_before m (after_wait j (acts_of job around n t))) none

  -- where there is no further wait it makes no more
  pub after_last : (n : ℕ) (t : Task) (j : ℕ) → wait_at job around n t (suc j) ≡ None → made_after job around n t (suc j) ≡ []
  after_last n t j none = ap made_in (none_behind j (acts_of job around n t) (waits_at job around n t j ∙ none))

  -- ---- as far as more tells

  on_to : (n m : ℕ) → n ≤ m → on (m - n) n ≡ m
  on_to n m l = on_is (m - n) n ∙ omega (arith, l)

  pub wait_to : (n m : ℕ) (t : Task) (j : ℕ) (ds : List Desc) → n ≤ m → wait_at job around n t j ≡ Some ds → wait_at job around m t j ≡ Some ds
  wait_to n m t j ds l e =
      ap (λ k. wait_at job around k t j) (sym (on_to n m l))
      ∙ kept_is None (wait_at job around n t j) (wait_at job around (on (m - n) n) t j) (Some ds)
      (kept_on None (λ k. wait_at job around k t j) (λ k. wait_kept job around t j k) (m - n) n) e (some_not ds)

  pub stands_to : (n m : ℕ) (t : Task) (j : ℕ) (a : State) → n ≤ m → stands_at job around n t j ≡ Some a → stands_at job around m t j ≡ Some a
  stands_to n m t j a l e =
      ap (λ k. stands_at job around k t j) (sym (on_to n m l))
      ∙ kept_is None (stands_at job around n t j) (stands_at job around (on (m - n) n) t j) (Some a)
      (kept_on None (λ k. stands_at job around k t j) (λ k. stands_kept job around t j k) (m - n) n) e (some_not a)

  pub see_to : (n m : ℕ) (d : Desc) (x : Obj) → n ≤ m → see job around n d ≡ Some x → see job around m d ≡ Some x
  see_to n m d x l e =
      ap (λ k. see job around k d) (sym (on_to n m l))
      ∙ kept_is None (see job around n d) (see job around (on (m - n) n) d) (Some x)
      (kept_on None (λ k. see job around k d) (λ k. see_kept job around k d) (m - n) n) e (some_not x)

  pub all_to : (n m : ℕ) (ds : List Desc) (os : List Obj) → n ≤ m → see_all (see job around n) ds ≡ Some os → see_all (see job around m) ds ≡ Some os
  all_to n m ds os l e =
      ap (λ k. see_all (see job around k) ds) (sym (on_to n m l))
      ∙ kept_is None (see_all (see job around n) ds) (see_all (see job around (on (m - n) n)) ds) (Some os)
      (kept_on None (λ k. see_all (see job around k) ds)
      (λ k. all_kept (see job around k) (see job around (suc k)) (λ d. see_kept job around k d) ds) (m - n) n) e (some_not os)
