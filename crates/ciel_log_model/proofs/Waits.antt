-- What a needed task waits for at a wait it holds there.
use Rattle.std.proofs.Common.{◌≡◌, ℕ, zero, suc, List, [], ◌∷◌, Bool, true, false, Option, Some, None, nat_le}
use Rattle.std.proofs.Common.{refl, ap, subst}
use Rattle.sky_base.specs.KitView.{Gives}
use Rattle.sky_base.specs.Needed as n
use Rattle.sky_base.specs.Read.{Halt}
use Rattle.sky_base.specs.See as s
use Rattle.sky_base.specs.Val.{call, input, known, out}
use Rattle.sky_base_law.specs.Tasks as t
use Rattle.sky_state_law.proofs.HeldDescriptions.{held_there}
use Rattle.ciel_journal.specs.Job.{In, Job, Needed, Task, WaitOf, of, show}
use Rattle.ciel_journal.specs.Lawful.{HeldAt}
use Rattle.ciel_journal_job.proofs.AlikeLaw.{is_one, wait_to}
use Rattle.ciel_journal_job.proofs.RealLaw.{in_from, in_to}
use Rattle.ciel_journal_job.specs.Real.{back, held_if}
use Rattle.ciel_json.specs.Around.{json_around}
use Rattle.ciel_task_order.specs.Named.{frozen_mark, mark_of, name_of, shop_job}

module _ (digest : List ℕ → List ℕ) (job : s.Job) (gives : Gives) where
  abbrev the : Job s.Desc
  the = shop_job digest job gives

  abbrev around : s.Around
  around = json_around gives

  -- ---- where something is waited for, the task stands in a state

  halted : (f : List ℕ) (j : ℕ) (h : Option (Halt ⊥)) (ds : List s.Desc) → n.halt_refs h ≡ Some ds → (a : n.State) × (n.halt_state f j h ≡ Some a)
  halted f j None ds e = cc
  halted f j (Some h) ds e = (_, refl)

  shown : (j : ℕ) (c : Bool) (w : Option s.Val) (ds : List s.Desc) → n.only_if c (n.wave_refs w) ≡ Some ds → (a : n.State) × (n.wave_state j w ≡ Some a)
  shown j c (Some v) ds e = (_, refl)
  shown j true None ds e = cc
  shown j false None ds e = cc

  -- it is the root task at a later wait, or a call
  stands : (u : n.Task) (k j : ℕ) (ds : List s.Desc) → n.wait_at job around k u (suc j) ≡ Some ds → (a : n.State) × (n.stands_at job around k u (suc j) ≡ Some a)
  stands n.Task.show k j ds e = shown (suc j) (nat_le (suc j) s.most_waves) (s.wave job around k (suc j)) ds e
  stands (n.Task.of (call f c vs)) k j ds e = halted f (suc j) _ ds e
  stands (n.Task.of (out x v m i)) k j ds e = cc
  stands (n.Task.of (input y)) k j ds e = cc
  stands (n.Task.of (known z)) k j ds e = absurd z

  -- and holds there, for the job, what that state holds
  holds : (u : Task s.Desc) (j : ℕ) (a : n.State) (d : s.Desc) → n.StandsAt job around (back u) j a → t.In d (t.held a) → HeldAt the u j d
  holds show j a d (k, e) i = (
    k,
    record { names = t.held a; mark = frozen_mark digest a },
    ap (held_if job around (name_of digest) (mark_of digest) (frozen_mark digest)) e,
    in_to d (t.held a) i,
  )
  holds (of (call f c vs)) j a d (k, e) i = (
    k,
    record { names = t.held a; mark = frozen_mark digest a },
    ap (held_if job around (name_of digest) (mark_of digest) (frozen_mark digest)) e,
    in_to d (t.held a) i,
  )
  holds (of (out x v m i)) j a d (k, e) w = cc
  holds (of (input y)) j a d (k, e) w = cc
  holds (of (known z)) j a d h w = absurd z

  -- ---- at the first wait

  first_held : (u : Task s.Desc) (ds : List s.Desc) (d : s.Desc) → ds ≡ the.first u → In d ds → HeldAt the u 0 d
  unfolding s.wave
  first_held show ds d e i =
      holds show 0 (n.State.show_at _ 0) d (0, refl)
      (held_there job around n.Task.show 0 (s.main_call ∷ []) (n.State.show_at _ 0) d (0, refl) (0, refl)
      (in_from d (s.main_call ∷ []) (subst (In d) e i)))
  first_held (of (call f c vs)) ds d e i = absurd (subst (In d) e i)
  first_held (of (out x v m zero)) ds d e i = (0, record { names = n.distinct_refs v; mark = [] }, refl, subst (In d) e i)
  first_held (of (out x v m (suc k))) ds d e i = (0, record { names = n.distinct_refs v; mark = [] }, refl, subst (In d) e i)
  first_held (of (input y)) ds d e i = absurd (subst (In d) e i)
  first_held (of (known z)) ds d e i = absurd z

  pub waited_held : (u : Task s.Desc) → Needed the u → (j : ℕ) (ds : List s.Desc) (d : s.Desc) → WaitOf the u j ds → In d ds → HeldAt the u j d
  waited_held u need zero ds d w i = first_held u ds d w i
  waited_held u need (suc j) ds d w i =
      let there = wait_to job around (name_of digest) (mark_of digest) (frozen_mark digest) u
      (is_one job around (name_of digest) (mark_of digest) (frozen_mark digest) u need) (suc j) ds w in
      let at = stands (back u) there.0 j ds there.1 in
      holds u (suc j) at.0 d (there.0, at.1)
      (held_there job around (back u) (suc j) ds at.0 d there (there.0, at.1) (in_from d ds i))
