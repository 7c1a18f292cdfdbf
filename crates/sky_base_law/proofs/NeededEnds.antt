-- Where a job has an answer, every task that it needs ends; where needed tasks wait for each other in a circle, it has none.
use Rattle.std.proofs.Common.{◌≡◌, ◌≢◌, ℕ, zero, suc, ◌<◌, List, Option, Some, None, is_some, slice_get, true, refl, sym, ap, ◌∙◌, subst, arith}
use Rattle.sky_base.specs.Val.{call, out, input, known}
use Rattle.sky_base.specs.See.{Desc, Job, Around, see, Answered, job_answer, Means, Never}
use Rattle.sky_base.specs.Needed.{Task, task_of, wait_at, WaitOf, Needed, root}
use Rattle.sky_base_law.specs.Tasks.{Each, first_of, waits_in, is_answer, acts_of, ended, Ends, WaitsFor, Chain, last, link}
use Rattle.sky_base_law.proofs.SeenLaw.{kept_is, kept_on, on, on_either, wait_kept}
use Rattle.sky_base_law.proofs.TaskOutputs.{in_contains, in_each}
use Rattle.sky_base_law.proofs.TaskFuel.{kept, ended_stays, first_seen, later_seen, unseen, out_alike, waits_at}
use Rattle.sky_base_law.proofs.Lists.{some_is, none_some}

some_none : {A : Type 0} (a : A) → Some a ≢ None
some_none a e = cc

there : {A : Type 0} (o : Option A) → o ≢ None → is_some o ≡ true
there None h = absurd (h refl)
there (Some a) h = refl

module _ (job : Job) (around : Around) where
  ended_on : (k n : ℕ) (t : Task) → ended job around n t ≡ true → ended job around (on k n) t ≡ true
  ended_on zero n t h = h
  ended_on (suc k) n t h = ended_stays job around (on k n) t (ended_on k n t h)

  acts_on : (k n : ℕ) (t : Task) → ended job around n t ≡ true → acts_of job around (on k n) t ≡ acts_of job around n t
  acts_on zero n t h = refl
  acts_on (suc k) n t h = (kept job around (on k n) t (ended_on k n t h)).0 ∙ acts_on k n t h

  -- a task that has ended has come to all its waits
  pub wait_ended : (n m : ℕ) (t : Task) (j : ℕ) (ds : List Desc) → ended job around n t ≡ true → wait_at job around m t (suc j) ≡ Some ds
      → slice_get (waits_in (acts_of job around n t)) j ≡ Some ds
  wait_ended n m t j ds h e =
      ap (λ x. slice_get (waits_in x) j) (sym (acts_on m n t h)) ∙ waits_at job around (on m n) t j
      ∙ ap (λ k. wait_at job around k t (suc j)) (on_either m n)
      ∙ kept_is None _ _ (Some ds) (kept_on None (λ k. wait_at job around k t (suc j)) (wait_kept job around t (suc j)) n m) e (some_none ds)

  pub first_is : (m : ℕ) (t : Task) (ds : List Desc) → wait_at job around m t 0 ≡ Some ds → first_of t ≡ ds
  first_is m Task.show ds e = some_is _ ds e
  first_is m (Task.of (call f c vs)) ds e = some_is _ ds e
  first_is m (Task.of (out x a k i)) ds e = some_is _ ds e
  first_is m (Task.of (input k)) ds e = absurd (none_some ds e)
  first_is m (Task.of (known b)) ds e = absurd b

  -- where a task has ended, all that it waits for is seen
  pub waits_all_seen : (n : ℕ) (t : Task) (j : ℕ) (ds : List Desc) → ended job around n t ≡ true → WaitOf job around t j ds
      → Each (λ d. see job around n d ≢ None) ds
  waits_all_seen n t zero ds h (m, e) = subst (Each (λ d. see job around n d ≢ None)) (first_is m t ds e) (first_seen job around n t h)
  waits_all_seen n t (suc j) ds h (m, e) = later_seen job around n t j ds h (wait_ended n m t j ds h e)

  pub task_ended : (n : ℕ) (d : Desc) (t : Task) → task_of d ≡ Some t → is_some (see job around (suc n) d) ≡ ended job around n t
  task_ended n (call f c vs) t e = ap (ended job around n) (some_is _ t e)
  task_ended n (out x a m i) t e = out_alike job around n x a m i 0 ∙ ap (ended job around n) (some_is _ t e)
  task_ended n (input k) t e = absurd (none_some t e)
  task_ended n (known b) t e = absurd b

  -- what is seen comes from a task that has ended with less fuel
  seen_ends : (n : ℕ) (d : Desc) (t : Task) → task_of d ≡ Some t → see job around n d ≢ None → (m : ℕ) × (m < n) × (ended job around m t ≡ true)
  seen_ends zero d t e ne = absurd (ne (unseen job around d))
  seen_ends (suc n) d t e ne = (n, omega arith, sym (task_ended n d t e) ∙ there (see job around (suc n) d) ne)

  answered : (a : Answered) → a ≢ Answered.not_yet → is_answer a ≡ true
  answered Answered.not_yet ne = absurd (ne refl)
  answered (Answered.bytes b) ne = refl
  answered (Answered.fault f) ne = refl

  -- a task that waits for another ends with more fuel than that one
  pub ends_before : (n : ℕ) (t u : Task) → ended job around n t ≡ true → WaitsFor job around t u → (m : ℕ) × (m < n) × (ended job around m u ≡ true)
  ends_before n t u h x =
      seen_ends n x.what u x.is_made (in_each (λ d. see job around n d ≢ None) x.waits x.what (waits_all_seen n t x.wait x.waits h x.waited)
      x.is_waited)

  from_ended : (t u : Task) → Ends job around t → WaitsFor job around t u → Ends job around u
  from_ended t u (n, h) x = go (ends_before n t u h x)
    where
      go : (m : ℕ) × (m < n) × (ended job around m u ≡ true) → Ends job around u
      go (m, lt, e) = (m, e)

  -- where the root task has ended, every needed task ends
  pub needed_ends : (t : Task) → Ends job around Task.show → Needed job around t → Ends job around t
  needed_ends Task.show ends root = ends
  needed_ends t ends (Needed.waited {t = u} need j ds d wait among is) =
      from_ended u t (needed_ends u ends need)
      (record { wait = j; waits = ds; waited = wait; what = d; is_waited = in_contains d ds among; is_made = is })

  -- the root task ends where the job means an answer
  pub means_ends : (a : Answered) → Means job around a → Ends job around Task.show
  means_ends a (n, e, ne) = (n, answered (job_answer job around n) (λ q. ne (sym e ∙ q)))

  -- ---- circles

  chain_before : (n : ℕ) (t u : Task) → ended job around n t ≡ true → Chain job around t u → (m : ℕ) × (m < n) × (ended job around m u ≡ true)
  chain_before n t u h (last x) = ends_before n t u h x
  chain_before n t u h (link {s = s} x c) = go (ends_before n t s h x) (λ m e. chain_before m s u e c)
    where
      go : (m : ℕ) × (m < n) × (ended job around m s ≡ true)
          → ((m : ℕ) → ended job around m s ≡ true → (k : ℕ) × (k < m) × (ended job around k u ≡ true)) → (m : ℕ) × (m < n)
          × (ended job around m u ≡ true)
      go (m, lt, e) f = let r : (k : ℕ) × (k < m) × (ended job around k u ≡ true) = f m e in (r.0, omega (arith, r.1), r.2)

  -- tasks that wait for each other in a circle never end
  circle_below : (b n : ℕ) (t : Task) → n < b → Chain job around t t → ended job around n t ≡ true → ⊥
  circle_below zero n t lt c h = absurd (omega arith)
  circle_below (suc b) n t lt c h =
      let r : (m : ℕ) × (m < n) × (ended job around m t ≡ true) = chain_before n t t h c in
      circle_below b r.0 t (omega (arith, r.1)) c r.2

  pub circle_ends : (t : Task) → Chain job around t t → Ends job around t → ⊥
  circle_ends t c (n, h) = circle_below (suc n) n t (omega arith) c h

  -- where needed tasks wait for each other in a circle, the job has no answer
  pub circle_never : (t : Task) → Needed job around t → Chain job around t t → Never job around
  circle_never t need c n = go (job_answer job around n) refl
    where
      go : (a : Answered) → job_answer job around n ≡ a → a ≡ Answered.not_yet
      go Answered.not_yet e = refl
      go (Answered.bytes b) e = absurd (circle_ends t c (needed_ends t (n, ap is_answer e) need))
      go (Answered.fault f) e = absurd (circle_ends t c (needed_ends t (n, ap is_answer e) need))
