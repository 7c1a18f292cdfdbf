-- An event of the job that saves a wait: what it spawned passes the tests, and so does its stack.
use Rattle.std.proofs.Common.{◌≡◌, ◌<◌, ℕ, zero, suc, List, [], ◌∷◌, Option, Some, None, ◌⊎◌}
use Rattle.std.proofs.Common.{refl, sym, ap, subst}
use Rattle.sky_base.specs.KitView.{Gives}
use Rattle.sky_base.specs.Name.{digested}
use Rattle.sky_base.specs.Needed as n
use Rattle.sky_base.specs.Read.{run_of_halt}
use Rattle.sky_base.specs.See as s
use Rattle.sky_base.specs.Val.{call, input, known, out}
use Rattle.sky_base.specs.declared.object.Desc1.{Desc1}
use Rattle.sky_base.specs.declared.object.Named.{Named}
use Rattle.sky_base_law.proofs.Lists.{none_some, some_is}
use Rattle.sky_state.specs.Fits.{Fits}
use Rattle.sky_state.proofs.FitsLaw.{stands_fits}
use Rattle.sky_state.proofs.WaitLaw.{stands_wait_is}
use Rattle.ciel_journal.specs.Entries.{low_names}
use Rattle.ciel_journal.specs.History.{Event, OpenStart, Standing, after, learned, saved, standing}
use Rattle.ciel_journal.specs.Job.{Digest, Each, In, IsJob, Job, Needed, Task, of, show}
use Rattle.ciel_journal.specs.Lawful.{SavedAllowed, Step}
use Rattle.ciel_journal.proofs.BookKnown.{learned_from, learned_has}
use Rattle.ciel_journal.proofs.Good.{after_saved}
use Rattle.ciel_journal_job.specs.Real.{back}
use Rattle.ciel_json.specs.Around.{json_around}
use Rattle.ciel_log_follows.proofs.Waits as waits
use Rattle.ciel_master_board.specs.Board.{Board}
use Rattle.ciel_master_board.specs.Driving.{Runs}
use Rattle.ciel_master_board.specs.Follows.{GoesBy, OrderIs}
use Rattle.ciel_master_board.specs.Reports.{learned_all}
use Rattle.ciel_master_board.specs.Sound.{Sound}
use Rattle.ciel_master_law.specs.Ends.{IsOrderly, worker_of}
use Rattle.ciel_master_safe.specs.Reports.{CanWait}
use Rattle.ciel_master_safe.specs.Safe.{IsStackOf}
use Rattle.ciel_task_order.specs.Named.{state_by_names}
use Rattle.ciel_task_order.specs.Orders.{OfKind}
use Rattle.ciel_task_order.specs.Views.{P, order_view}
use Rattle.ciel_task_order.specs.declared.order.Order.{Order}
use Rattle.ciel_want.specs.History.{task_id}
use Rattle.ciel_want.specs.Waited.{AllKnown}
use Rattle.ciel_log_model.specs.Passes.{SpawnedPasses}
use Rattle.ciel_log_model.proofs.Books.{J, S, Tells, is}
use Rattle.ciel_log_model.proofs.Closed.{open_needed}
use Rattle.ciel_log_model.proofs.Outputs.{task_sound}
use Rattle.ciel_log_model.proofs.Spawned.{reads, spawned_passes, then_known, till_made, till_with}

module _ (digest : List ℕ → List ℕ) (job : s.Job) (gives : Gives) (orderly : IsOrderly digest job gives) where
  abbrev the : Job s.Desc
  the = J digest job gives orderly

  abbrev laws : IsJob the
  laws = (is digest job gives orderly).laws

  -- ---- the state of a task at a wait

  -- it is of the task's kind
  wave_kind : (j : ℕ) (x : Option s.Val) (a : n.State) → n.wave_state j x ≡ Some a → OfKind (task_id the show) (state_by_names digest a)
  wave_kind j None a e = absurd (none_some a e)
  wave_kind j (Some v) a e = subst (λ z. OfKind (task_id the show) (state_by_names digest z)) (some_is (n.State.show_at v j) a e) tt

  start_kind : (d : s.Desc) (f : List ℕ) (c : s.Pairs) (vs : s.Vals) (x : Option _) (a : n.State) → n.start_frame f c vs x ≡ Some a
      → OfKind (task_id the (of d)) (state_by_names digest a)
  start_kind d f c vs None a e = absurd (none_some a e)
  start_kind d f c vs (Some y) a e = subst (λ z. OfKind (task_id the (of d)) (state_by_names digest z)) (some_is _ a e) tt

  halt_kind : (d : s.Desc) (f : List ℕ) (j : ℕ) (x : Option _) (a : n.State) → n.halt_state f j x ≡ Some a
      → OfKind (task_id the (of d)) (state_by_names digest a)
  halt_kind d f j None a e = absurd (none_some a e)
  halt_kind d f j (Some h) a e =
      subst (λ z. OfKind (task_id the (of d)) (state_by_names digest z)) (some_is (n.State.run (run_of_halt f j h)) a e) tt

  kind_of : (u : Task s.Desc) (j : ℕ) (a : n.State) → n.StandsAt job (json_around gives) (back u) j a
      → OfKind (task_id the u) (state_by_names digest a)
  kind_of show j a (k, e) = wave_kind j (s.wave job (json_around gives) k j) a e
  kind_of (of (call f c vs)) zero a (k, e) = start_kind (call f c vs) f c vs _ a e
  kind_of (of (call f c vs)) (suc j) a (k, e) = halt_kind (call f c vs) f (suc j) _ a e
  kind_of (of (out y z m i)) j a (k, e) = absurd (none_some a e)
  kind_of (of (input y)) j a (k, e) = absurd (none_some a e)
  kind_of (of (known z)) j a h = absurd z

  -- only the root task and a call stand at a wait
  can_wait : (u : Task s.Desc) (j : ℕ) (a : n.State) → n.StandsAt job (json_around gives) (back u) j a → (e : Option Desc1)
      → GoesBy (S digest job gives orderly) u e → CanWait (task_id the u) e
  can_wait show j a h e g = tt
  can_wait (of d) j a h None g = absurd g
  can_wait (of (call f c vs)) j a h (Some (Desc1.Call x y zs)) g = tt
  can_wait (of (call f c vs)) j a h (Some (Desc1.Exec x y m i)) g = cc
  can_wait (of (call f c vs)) j a h (Some (Desc1.Input x)) g = cc
  can_wait (of (out y z m i)) j a (k, e) (Some x) g = absurd (none_some a e)
  can_wait (of (input y)) j a (k, e) (Some x) g = absurd (none_some a e)
  can_wait (of (known z)) j a h (Some x) g = absurd z

  module _ (h : List (Event s.Desc)) (b : Board P) (runs : Runs (S digest job gives orderly) h b) (sound : Sound digest worker_of b) (k j : ℕ)
      (mark : Digest) (refs holds spawned : List s.Desc) (step : Step the b.plan (standing the h) (saved k j mark refs holds spawned)) where
    abbrev v : Standing s.Desc
    v = standing the h

    abbrev o : OpenStart s.Desc
    o = step.allowed.0

    abbrev then : Standing s.Desc
    then = after the v (saved k j mark refs holds spawned)

    abbrev ok : SavedAllowed the o j mark refs holds spawned
    ok = step.allowed.2

    need : Needed the o.task
    need = open_needed digest job gives orderly h b runs sound k o step.allowed.1

    -- ---- what it spawned

    book_is : then.book ≡ learned the v.book spawned
    book_is = ap (λ (u : Standing s.Desc). u.book) (after_saved the laws v k j mark refs holds spawned o step.allowed.1)

    booked : (d : s.Desc) → In d spawned → In d then.book
    booked d i = subst (In d) (sym book_is) (learned_has the laws v.book spawned d i)

    from_book : (d : s.Desc) → In d then.book → In d v.book ⊎ In d spawned
    from_book d i = learned_from the laws v.book spawned d (subst (In d) book_is i)

    module _ (ns : List Named) (tells : Tells digest job gives orderly ns spawned) where
      pub saved_passes : SpawnedPasses digest job.script b.table ns
      saved_passes =
          spawned_passes digest job gives orderly h b runs sound (saved k j mark refs holds spawned) step spawned ns tells booked from_book
          (till_made digest job gives orderly o need j spawned ok.spawns) (till_with digest job gives orderly o need j spawned ok.spawns)

      names_known : (ds : List s.Desc) → Each (λ d. In d then.book) ds → AllKnown (learned_all digest ns b.table) (low_names the ds)
      names_known [] f = tt
      names_known (d ∷ ds) f = (
        then_known digest job gives orderly h b runs sound (saved k j mark refs holds spawned) step spawned ns tells booked from_book d f.0,
        names_known ds f.1,
      )

      pub refs_known : AllKnown (learned_all digest ns b.table) (low_names the refs)
      refs_known =
          names_known refs (waits.refs_booked digest job gives orderly h b sound runs.follows k j mark refs holds spawned step)

      pub holds_known : AllKnown (learned_all digest ns b.table) (low_names the holds)
      holds_known =
          names_known holds (waits.holds_booked digest job gives orderly h b sound runs.follows k j mark refs holds spawned step)

    -- ---- its stack

    module _ (order : Order) (order_is : OrderIs (S digest job gives orderly) o (order_view order)) (a : n.State)
        (stands : n.StandsAt job (json_around gives) (back o.task) j a) where
      fits : Fits job.script (state_by_names digest a)
      fits =
          stands_fits (digested digest) job (json_around gives) (reads digest job gives orderly) (back o.task) j a refs
          (task_sound digest job gives orderly o.task need) stands
          (waits.waits_at digest job gives orderly h b sound runs.follows k j mark refs holds spawned step a stands)

      pub stack_is : IsStackOf job.script order.task j (low_names the refs) (low_names the holds) (state_by_names digest a)
      stack_is = (
        fits,
        subst (λ z. OfKind z (state_by_names digest a)) (sym order_is.out.task) (kind_of o.task j a stands),
        stands_wait_is job (json_around gives) (digested digest) (state_by_names digest a) (back o.task) j (a, stands, refl),
        waits.refs_told digest job gives orderly h b sound runs.follows k j mark refs holds spawned step a stands,
        waits.holds_told digest job gives orderly h b sound runs.follows k j mark refs holds spawned step a stands,
      )

      pub later : order.from < j
      later = subst (λ z. z < j) (sym order_is.out.from) ok.next.later

      pub may_wait : CanWait order.task order.desc
      may_wait = subst (λ z. CanWait z order.desc) (sym order_is.out.task) (can_wait o.task j a stands order.desc order_is.desc)
