-- What holds of what stands after a lawful history.
use Rattle.std.proofs.Common.{◌≡◌, ℕ, List, [], ◌∷◌, ◌++◌, Bool, true, false, cond, Option, Some, None, refl, ap, sym, subst, nat_lt, filter}
use Rattle.ciel_journal.specs.Job.{Digest, Each, IsJob, Job, Needed, Never, Task, WaitOf, of, show}
use Rattle.ciel_journal.specs.History.{Event, OpenStart, Plan, Save, Standing, after, after_all, before_all, better, close_with, closed, done}
use Rattle.ciel_journal.specs.History.{done_with, find_open, last_save, lost, missed, missed_with, needs_of, same_task, saved, saved_with, start}
use Rattle.ciel_journal.specs.History.{wait_number}
use Rattle.ciel_journal.specs.Lawful.{Allowed, Lawful, LawfulFrom}
use Rattle.ciel_journal.specs.Graph.{root, through}
use Rattle.ciel_journal.specs.Turns.{CircleAtRest, Reached}
use Rattle.ciel_journal.proofs.Circle.{Waiting, circle_never}

module _ {A : Type 0} (P : A → Type 0) where
  pub each_join : (xs ys : List A) → Each P xs → Each P ys → Each P (xs ++ ys)
  each_join [] ys h k = k
  each_join (x ∷ xs) ys h k = (h.0, each_join xs ys h.1 k)

  pub each_filter : (p : A → Bool) (xs : List A) → Each P xs → Each P (filter p xs)
  each_filter p [] h = tt
  each_filter p (x ∷ xs) h = pick (p x) (each_filter p xs h.1)
    where
      pick : (b : Bool) → Each P (filter p xs) → Each P (cond b (x ∷ filter p xs) (filter p xs))
      pick true r = (h.0, r)
      pick false r = r

module _ {D : Type 0} (job : Job D) (laws : IsJob job) where
  pub after_done : (v : Standing D) (k : ℕ) (made : List (D × Digest)) (copied spawned : List D) (o : OpenStart D) → find_open job k v.orders
      ≡ Some o → after job v (done k made copied spawned) ≡ done_with job made copied spawned o (closed job v k)
  after_done v k made copied spawned o e = ap (close_with job (done_with job made copied spawned) v k) e

  pub after_saved : (v : Standing D) (k j : ℕ) (mark : Digest) (refs holds spawned : List D) (o : OpenStart D) → find_open job k v.orders
      ≡ Some o → after job v (saved k j mark refs holds spawned) ≡ saved_with job j refs holds spawned o (closed job v k)
  after_saved v k j mark refs holds spawned o e = ap (close_with job (saved_with job j refs holds spawned) v k) e

  pub after_missed : (v : Standing D) (k : ℕ) (d : D) (loss : ℕ) (o : OpenStart D) → find_open job k v.orders ≡ Some o
      → after job v (missed k d loss) ≡ closed job v k
  after_missed v k d loss o e = ap (close_with job (missed_with job) v k) e

  abbrev pub SaveOk : Save D → Type 0
  SaveOk s = WaitOf job s.task s.j s.refs

  abbrev pub SavesOk : Standing D → Type 0
  SavesOk v = Each SaveOk v.saves

  pub saves_start : SavesOk (before_all job)
  saves_start = tt

  pub saves_step : (p : Plan) (v : Standing D) (e : Event D) → SavesOk v → Allowed job p v e → SavesOk (after job v e)
  saves_step p v (start k w t from) h s = h
  saves_step p v (done k made copied spawned) h s =
      let a = s in subst SavesOk (sym (after_done v k made copied spawned a.0 a.1)) h
  saves_step p v (saved k j mark refs holds spawned) h s =
      let a = s in
      let one : Save D = record { task = a.0.task; j = j; worker = a.0.worker; refs = refs; holds = holds } in
      let w : Each SaveOk (one ∷ []) = (a.2.next.waits, tt) in
      subst SavesOk (sym (after_saved v k j mark refs holds spawned a.0 a.1)) (each_join SaveOk v.saves (one ∷ []) h w)
  saves_step p v (missed k d loss) h s =
      let a = s in subst SavesOk (sym (after_missed v k d loss a.0 a.1)) h
  saves_step p v (lost w closes) h s = each_filter SaveOk _ v.saves h

  pub saves_all : (p : Plan) (v : Standing D) (h : List (Event D)) → SavesOk v → LawfulFrom job p v h → SavesOk (after_all job v h)
  saves_all p v [] k l = k
  saves_all p v (e ∷ es) k l = saves_all p (after job v e) es (saves_step p v e k l.0.allowed) l.1

  same_task_exact : (t u : Task D) → same_task job t u ≡ true → t ≡ u
  same_task_exact show show h = refl
  same_task_exact show (of e) h = cc
  same_task_exact (of d) show h = cc
  same_task_exact (of d) (of e) h = ap of (laws.same_exact d e h)

  -- the last save of a task is one of its saves
  pub last_ok : (t : Task D) (ss : List (Save D)) → Each SaveOk ss
      → WaitOf job t (wait_number job (last_save job t ss)) (needs_of job t (last_save job t ss))
  last_ok t [] h = refl
  last_ok t (s ∷ ss) h = pick (same_task job t s.task) refl (last_save job t ss) (last_ok t ss h.1)
    where
      pick : (b : Bool) → same_task job t s.task ≡ b → (o : Option (Save D)) → WaitOf job t (wait_number job o) (needs_of job t o)
          → WaitOf job t (wait_number job (cond b (better job s o) o)) (needs_of job t (cond b (better job s o) o))
      pick true e None r = subst (λ u. WaitOf job u s.j s.refs) (sym (same_task_exact t s.task e)) h.0
      pick true e (Some q) r = choose (nat_lt q.j s.j)
        where
          choose : (c : Bool) → WaitOf job t (wait_number job (cond c (Some s) (Some q))) (needs_of job t (cond c (Some s) (Some q)))
          choose true = subst (λ u. WaitOf job u s.j s.refs) (sym (same_task_exact t s.task e)) h.0
          choose false = r
      pick false e o r = r

  pub waiting_ok : (v : Standing D) → SavesOk v → Waiting job laws v
  waiting_ok v h t = (_, last_ok t v.saves h)

  -- an endless circle after a lawful history
  pub lawful_circle : (p : Plan) (h : List (Event D)) → Lawful job p h → (ds : List D) → CircleAtRest job (after_all job (before_all job) h) ds
      → Never job
  lawful_circle p h l ds c = circle_never job laws (after_all job (before_all job) h)
      (waiting_ok (after_all job (before_all job) h) (saves_all p (before_all job) h saves_start l)) ds c

  -- what is reached is needed
  pub reached_needed : (v : Standing D) → SavesOk v → (t : Task D) → Reached job v t → Needed job t
  reached_needed v h t root = Needed.root
  reached_needed v h t (through r o d i l e) =
      let w = waiting_ok v h _ in Needed.waited (reached_needed v h _ r) w.0 _ d w.1 i e
