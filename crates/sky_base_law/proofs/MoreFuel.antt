-- The laws of more fuel, from n to any m that isn't below it.
use Rattle.std.proofs.Common.{◌≡◌, ◌≢◌, ℕ, zero, suc, ◌-◌, ◌≤◌, List, [], ◌++◌, true, Some, None, refl, sym, ap, ◌∙◌, subst, arith, append_assoc}
use Rattle.std.proofs.Common.{append-nil}
use Rattle.sky_base.specs.See.{Desc, Obj, Job, Around, Answered, see, job_answer}
use Rattle.sky_base.specs.Needed.{Task}
use Rattle.sky_base_law.specs.Tasks.{acts_of, ended}
use Rattle.sky_base_law.proofs.SeenLaw.{Begins, on, on_is, kept_on, kept_is, see_kept, answer_kept}
use Rattle.sky_base_law.proofs.TaskFuel.{more, kept}

on_to : (n m : ℕ) → n ≤ m → on (m - n) n ≡ m
on_to n m l = on_is (m - n) n ∙ omega (arith, l)

module _ {A : Type 0} (f : ℕ → List A) (step : (n : ℕ) → Begins (f n) (f (suc n))) where
  begins_over : (xs ys zs : List A) → Begins xs ys → Begins ys zs → Begins xs zs
  begins_over xs ys zs b c = (b.0 ++ c.0, c.1 ∙ ap (λ us. us ++ c.0) b.1 ∙ append_assoc xs b.0 c.0)

  begins_on : (k n : ℕ) → Begins (f n) (f (on k n))
  begins_on zero n = ([], sym (append-nil (f n)))
  begins_on (suc k) n = begins_over (f n) (f (on k n)) (f (suc (on k n))) (begins_on k n) (step (on k n))

module _ (job : Job) (around : Around) where
  some_not : (o : Obj) → Some o ≢ None
  some_not o e = absurd cc

  pub seen_stays : (n m : ℕ) (d : Desc) (o : Obj) → n ≤ m → see job around n d ≡ Some o → see job around m d ≡ Some o
  seen_stays n m d o l h =
      ap (λ k. see job around k d) (sym (on_to n m l))
      ∙ kept_is None (see job around n d) (see job around (on (m - n) n) d) (Some o)
      (kept_on None (λ k. see job around k d) (λ k. see_kept job around k d) (m - n) n) h (some_not o)

  pub answer_stays : (n m : ℕ) (a : Answered) → n ≤ m → job_answer job around n ≡ a → a ≢ Answered.not_yet → job_answer job around m ≡ a
  answer_stays n m a l h ne =
      ap (λ k. job_answer job around k) (sym (on_to n m l))
      ∙ kept_is Answered.not_yet (job_answer job around n) (job_answer job around (on (m - n) n)) a
      (kept_on Answered.not_yet (λ k. job_answer job around k) (λ k. answer_kept job around k) (m - n) n) h ne

  pub acts_grow_to : (n m : ℕ) (t : Task) → n ≤ m → Begins (acts_of job around n t) (acts_of job around m t)
  acts_grow_to n m t l =
      subst (λ k. Begins (acts_of job around n t) (acts_of job around k t)) (on_to n m l)
      (begins_on (λ k. acts_of job around k t) (λ k. more job around k t) (m - n) n)

  ended_on : (k n : ℕ) (t : Task) → ended job around n t ≡ true → (ended job around (on k n) t ≡ true)
      × (acts_of job around (on k n) t ≡ acts_of job around n t)
  ended_on zero n t h = (h, refl)
  ended_on (suc k) n t h =
      let r : (ended job around (on k n) t ≡ true) × (acts_of job around (on k n) t ≡ acts_of job around n t) = ended_on k n t h in
      let s : (acts_of job around (suc (on k n)) t ≡ acts_of job around (on k n) t) × (ended job around (suc (on k n)) t ≡ true) =
      kept job around (on k n) t r.0 in
      (s.1, s.0 ∙ r.1)

  pub ended_stays_to : (n m : ℕ) (t : Task) → n ≤ m → ended job around n t ≡ true → (ended job around m t ≡ true)
      × (acts_of job around m t ≡ acts_of job around n t)
  ended_stays_to n m t l h =
      subst (λ k. (ended job around k t ≡ true) × (acts_of job around k t ≡ acts_of job around n t)) (on_to n m l) (ended_on (m - n) n t h)
