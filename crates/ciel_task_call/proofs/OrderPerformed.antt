-- The report of a run performs the order.
use Rattle.std.proofs.Common.{◌≡◌, ℕ, List, [], length, map, true, Option, Some, None, IsSome, inl, inr, refl, sym, ap, subst, ◌∙◌}
use Rattle.std.specs.Option.{option_map}
use Rattle.sha1.specs.Sha1.{sha1}
use Rattle.sky_base.specs.KitView.{Gives}
use Rattle.sky_base.specs.Name.{digested, held_name, name}
use Rattle.sky_base.specs.Res.{Object}
use Rattle.sky_base.specs.See as s
use Rattle.sky_base.specs.Val as v
use Rattle.sky_base.specs.Val.{distinct, known, same_text}
use Rattle.sky_base.specs.declared.object.TaskId.{TaskId}
use Rattle.sky_base_law.specs.Lower.{low_ref}
use Rattle.sky_base_law.specs.NamesLaws.{NoClash, Tag, no_name}
use Rattle.sky_base_law.specs.Tasks.{Each, In}
use Rattle.sky_base_law.proofs.TaskOutputs.{in_each}
use Rattle.sky_state_law.proofs.HeldDescriptions.{held_there}
use Rattle.ciel_task_call.specs.Exactly.{FitsAfter}
use Rattle.ciel_task_call.specs.Onward.{IsRead}
use Rattle.ciel_task_call.specs.Step.{Step}
use Rattle.sky_state.specs.Fits.{Fits}
use Rattle.sky_state.specs.Pending.{held_in, pending_in, stand_wait}
use Rattle.sky_state.specs.Stand.{Stand}
use Rattle.sky_state.specs.Stands.{Stands}
use Rattle.sky_state.proofs.HeldLaw.{stands_pending}
use Rattle.ciel_task_call.specs.Found.{SameKind}
use Rattle.ciel_master_board.specs.Board as board
use Rattle.ciel_master_board.specs.Board.{spot_of}
use Rattle.ciel_master_board.specs.Follows.{OrderIs}
use Rattle.ciel_master_board.specs.Laws.{Lies}
use Rattle.ciel_master_board.specs.Reports.{report_view}
use Rattle.ciel_master_board.specs.Setting.{Setting}
use Rattle.ciel_master_board.specs.Sound.{MissFits, own_name}
use Rattle.ciel_journal.specs.History.{OpenStart}
use Rattle.ciel_journal.specs.Job.{Digest, Job}
use Rattle.ciel_json.specs.Around.{json_around}
use Rattle.ciel_json.proofs.ReadLaw.{json_reads_plain}
use Rattle.ciel_journal_job.specs.Inner.{real_inner}
use Rattle.ciel_journal_job.specs.Real.{back}
use Rattle.ciel_journal_job.proofs.RealLaw.{in_to}
use Rattle.ciel_name.specs.Object.{object_bytes}
use Rattle.ciel_journal_job.specs.Report as report
use Rattle.ciel_journal_job.specs.Report.{FirstApart, Says, held_then}
use Rattle.ciel_store.specs.Seen.{SeatSeen, ShelvesSeen}
use Rattle.ciel_store.specs.declared.loss.Loss.{Loss}
use Rattle.ciel_task_inputs.specs.Gathers.{lies_of}
use Rattle.ciel_task_inputs.specs.Lies.{LostAt}
use Rattle.ciel_task_order.specs.Orders.{GoesOnFrom, HasObject, HasStack, OfKind, OrderSound, Saved, names_in}
use Rattle.ciel_task_order.specs.Performs.{AnswerIs, IsMissed, IsMissing, Missed, OfTask, Performs}
use Rattle.ciel_task_order.specs.Places.{CopyAt, EndAt, ObjectAt, PlacesSound}
use Rattle.ciel_task_order.specs.Shop as shop
use Rattle.ciel_task_order.specs.Shop.{InputsInOrder, shop_setting}
use Rattle.ciel_task_order.specs.Views.{P, how_view, order_view, report_end, spot_view}
use Rattle.ciel_task_order.specs.declared.block.Block.{Block}
use Rattle.ciel_task_order.specs.declared.block.Held.{Held}
use Rattle.ciel_task_order.specs.declared.block.Spot.{Spot}
use Rattle.ciel_task_order.specs.declared.order.Order.{Order}
use Rattle.ciel_task_order.specs.declared.report.End as rust_end
use Rattle.ciel_task_order.specs.declared.report.Made.{Made}
use Rattle.ciel_task_order.specs.declared.report.Report as rust
use Rattle.ciel_task_inputs.specs.JournalWalksLaws.{Begins}
use Rattle.ciel_task_inputs.proofs.Right.{held_of}
use Rattle.ciel_task_inputs.proofs.WalkResults.{missing_one, only_says}
use Rattle.ciel_task_inputs.specs.Brought.{lies_known}
use Rattle.ciel_task_inputs.proofs.CopiedObjects.{copies_sound}
use Rattle.ciel_task_inputs.proofs.NameSpots.{spot_at, spot_found}
use Rattle.ciel_task_call.specs.Finds.{IsLost}
use Rattle.ciel_task_call.proofs.FoundInputs.{named_there}
use Rattle.sky_frozen_bytes.specs.Bytes.{frozen_bytes}
use Rattle.ciel_task_call.specs.Begins.{BeginsAt, HasState, IsFrom, StackIsLost}
use Rattle.ciel_task_call.specs.Ends.{EndIs, TellsMissing}
use Rattle.ciel_task_call.specs.Runs.{Ran, Went, lost, stack, went}
use Rattle.ciel_task_call.proofs.ResumeStates.{begins, stands}
use Rattle.ciel_task_call.proofs.ReportFit.{are_named, fits_in}
use Rattle.ciel_task_call.proofs.ReportPlaces.{answers, lies}
use Rattle.ciel_task_call.proofs.ReportTruth.{Q, in_mapped, says_and}

none_not : {A : Type 0} {a : A} → None ≡ Some a → ⊥
none_not e = cc

-- ---- the stack of an order

-- from its stack the task goes on
pub saved_begins : (shelves : ShelvesSeen) (job : s.Job) (order : Order) (p : P) → order.saved ≡ Some p → GoesOnFrom shelves job.script order p
    → (x : Stand (List ℕ)) × (p.at.value ≡ Block.Frozen x) × BeginsAt job.script order x
saved_begins shelves job order p e g = go p.at.value refl g.stack
  where
    go : (b : Block) → p.at.value ≡ b → HasStack
        (λ z. Fits job.script z × OfKind order.task z × (stand_wait z ≡ order.from)
        × Each (λ d. In (held_name d) (names_in order.inputs.items)) (pending_in same_text z)) b → (x : Stand (List ℕ))
        × (p.at.value ≡ Block.Frozen x) × BeginsAt job.script order x
    go (Block.Object o) q h = absurd h
    go (Block.Frozen x) q h = (
      x,
      q,
      record {
        fits = h.0;
        kind = h.1;
        wait = h.2;
        pending = h.3;
        from =
            subst (λ z. IsFrom job.script order z x) (sym e) q;
      },
    )

-- ---- kinds

missing_kind : (task : TaskId) (nm : List ℕ) (loss : Loss) (seen : Option SeatSeen) → OfTask task (rust_end.End.Missing nm loss seen)
missing_kind TaskId.Show nm loss seen = tt
missing_kind (TaskId.Of n) nm loss seen = tt

end_kind : (shelves : ShelvesSeen) (w : ℕ) (task : TaskId) (x new : Stand (List ℕ)) (step : Step) (end : rust_end.End) → OfKind task x
    → SameKind x step new → EndIs shelves w task step new end → OfTask task end
end_kind shelves w TaskId.Show x new (Step.Ended o) (rust_end.End.Made ms) k sk (m, one, made) = absurd (no made.name)
  where
    no : TaskId.Show ≡ TaskId.Of m.name → ⊥
    no e = cc
end_kind shelves w (TaskId.Of n) x new (Step.Ended o) (rust_end.End.Made ms) k sk e = tt
end_kind shelves w task x new (Step.Ended o) (rust_end.End.Saved p i waited kept mk) k sk e = absurd e
end_kind shelves w task x new (Step.Ended o) (rust_end.End.Shown a) k sk e = absurd e
end_kind shelves w task x new (Step.Ended o) (rust_end.End.Missing nm loss seen) k sk e = absurd e
end_kind shelves w task x new Step.Waits (rust_end.End.Made ms) k sk e = absurd e
end_kind shelves w TaskId.Show x new Step.Waits (rust_end.End.Saved p i waited kept mk) k sk e = tt
end_kind shelves w (TaskId.Of n) x new Step.Waits (rust_end.End.Saved p i waited kept mk) k sk e = tt
end_kind shelves w task x new Step.Waits (rust_end.End.Shown a) k sk e = absurd e
end_kind shelves w task x new Step.Waits (rust_end.End.Missing nm loss seen) k sk e = absurd e
end_kind shelves w task x new (Step.Shown a) (rust_end.End.Made ms) k sk e = absurd e
end_kind shelves w task x new (Step.Shown a) (rust_end.End.Saved p i waited kept mk) k sk e = absurd e
end_kind shelves w TaskId.Show x new (Step.Shown a) (rust_end.End.Shown c) k sk e = tt
end_kind shelves w (TaskId.Of n) (Stand.run q) new (Step.Shown a) (rust_end.End.Shown c) k sk e = absurd sk
end_kind shelves w (TaskId.Of n) (Stand.show_at u i) new (Step.Shown a) (rust_end.End.Shown c) k sk e = absurd k
end_kind shelves w task x new (Step.Shown a) (rust_end.End.Missing nm loss seen) k sk e = absurd e

-- the state at a wait is of the task's kind
pub kept_kind : (task : TaskId) (x new : Stand (List ℕ)) → OfKind task x → SameKind x Step.Waits new → OfKind task new
kept_kind TaskId.Show (Stand.run q) new k s = absurd k
kept_kind TaskId.Show (Stand.show_at u i) (Stand.run q) k s = absurd s
kept_kind TaskId.Show (Stand.show_at u i) (Stand.show_at y j) k s = tt
kept_kind (TaskId.Of n) (Stand.run q) (Stand.run r) k s = tt
kept_kind (TaskId.Of n) (Stand.run q) (Stand.show_at y j) k s = absurd s
kept_kind (TaskId.Of n) (Stand.show_at u i) new k s = absurd k

-- ---- the order

module _ (digest : List ℕ → List ℕ) (job : s.Job) (gives : Gives) (keyed : InputsInOrder job) (order : Order) (shelves : ShelvesSeen)
    (sound : OrderSound digest shelves job.script (length job.inputs) order) (state : HasState order.desc) (read : IsRead job.script)
    (r : rust.Report) where
  abbrev S : Setting s.Desc P shop.Block
  S = shop_setting digest job gives

  abbrev J : Job s.Desc
  J = S.job

  abbrev tag : Tag
  tag = digested digest

  abbrev around : s.Around
  around = json_around gives

  abbrev mark : Object (List ℕ) → Digest
  mark y = sha1 (object_bytes y)

  abbrev frozen : Stand (List ℕ) → Digest
  frozen a = sha1 (frozen_bytes a)

  -- it went on
  went_performs : (x : Stand (List ℕ)) (b : BeginsAt job.script order x) (w : Went digest shelves job.script job.inputs order x r)
      → Performs digest job gives order r
  went_performs x b w = record {
    number = w.of.number;
    worker = w.of.worker;
    task = w.of.task;
    kind = end_kind shelves order.worker order.task x w.new w.step r.end b.kind w.kind w.end;
    fits = λ board sound_board out rows there. record {
      named = are_named digest shelves job.script job.inputs order x b sound state r w board.table rows read;
      missed = not_missed r.end r.copied.items there board;
      learned = λ all. fits_in digest shelves job.script job.inputs order x b sound state r w board.table rows;
    };
    missed = none_missed w.step w.new r.end w.end;
    says = λ o is apart. only_says J (real_inner job around) S.lower o _ (Q digest job gives keyed o order is x b apart shelves r w)
        (says_and digest job gives keyed o order is x b apart shelves r w);
    lies = λ h p o lawful opened is. lies digest job gives keyed order h p o lawful opened is x b shelves r w;
    answers = λ h p o lawful opened is. answers digest job gives keyed order h p o lawful opened is x b shelves r w;
  }
    where
      not_missed : (end : rust_end.End) (cs : List Held) → (IsMissing end → ⊥) → (board : board.Board P)
          → MissFits digest (λ (p : P). p.worker) board (order_view order) (how_view cs end)
      not_missed (rust_end.End.Made ms) cs h board = tt
      not_missed (rust_end.End.Saved p i waited kept mk) cs h board = tt
      not_missed (rust_end.End.Shown a) cs h board = tt
      not_missed (rust_end.End.Missing nm loss seen) cs h board = absurd (h tt)

      none_missed : (step : Step) (new : Stand (List ℕ)) (end : rust_end.End) → EndIs shelves order.worker order.task step new end
          → Missed digest order end
      none_missed step new (rust_end.End.Made ms) k = tt
      none_missed step new (rust_end.End.Saved p i waited kept mk) k = tt
      none_missed step new (rust_end.End.Shown a) k = tt
      none_missed (Step.Ended o) new (rust_end.End.Missing nm loss seen) k = absurd k
      none_missed Step.Waits new (rust_end.End.Missing nm loss seen) k = absurd k
      none_missed (Step.Shown a) new (rust_end.End.Missing nm loss seen) k = absurd k

  -- ---- something was missing

  -- what is waited for at the order's wait is brought along
  waited_there : (o : OpenStart s.Desc) (is : OrderIs S o (order_view order)) → FirstApart J S.inner o
      → (x : Stand (List ℕ)) (b : BeginsAt job.script order x) → (d : v.Desc (List ℕ)) → In d (pending_in same_text x) → (y : Object (List ℕ))
      × (lies_known job.inputs order.inputs.items d ≡ Some y)
  waited_there o is apart x b d i = subst (λ z. (y : Object (List ℕ)) × (lies_known job.inputs order.inputs.items z ≡ Some y)) (sym back_to.2)
      (some_there (lies_of job.inputs order.inputs.items (name no_name tag back_to.0)) refl named)
    where
      begun : Begins tag mark frozen job around o (lies_known job.inputs order.inputs.items) x
      begun = begins digest job gives o order is x b keyed apart

      st : Stands job around tag x (back o.task) o.from
      st = stands digest job gives o order is x b

      first : (e : s.Desc) → In e begun.waits.0 → report.First J S.inner o e
      first e k = held_then (held_of tag mark frozen job around (json_reads_plain gives) o (lies_known job.inputs order.inputs.items) x begun
          o.from st.0 e st.1 (held_there job around (back o.task) o.from begun.waits.0 st.0 e begun.waits.1 st.1 k))

      no_clash : NoClash tag begun.waits.0
      no_clash e f k l q = apart e f (first e k) (first f l) q

      pending : pending_in same_text x ≡ map (low_ref no_name tag) (distinct (λ (y z : ⊥). true) begun.waits.0)
      pending = stands_pending tag job around x (back o.task) o.from begun.waits.0 st begun.waits.1 no_clash

      back_to : (e : s.Desc) × In e (distinct (λ (y z : ⊥). true) begun.waits.0) × (d ≡ low_ref no_name tag e)
      back_to = in_mapped (low_ref no_name tag) (distinct (λ (y z : ⊥). true) begun.waits.0) d (subst (In d) pending i)

      stands_named : In (held_name d) (names_in order.inputs.items)
      stands_named = in_each (λ e. In (held_name e) (names_in order.inputs.items)) (pending_in same_text x) d b.pending i

      named : IsSome (lies_of job.inputs order.inputs.items (name no_name tag back_to.0))
      named = named_there shelves job.script job.inputs order.inputs.items sound.spots (name no_name tag back_to.0)
          (subst (λ z. In (held_name z) (names_in order.inputs.items)) back_to.2 stands_named)

      some_there : (y : Option (Object (List ℕ))) → lies_of job.inputs order.inputs.items (name no_name tag back_to.0) ≡ y
          → IsSome (lies_of job.inputs order.inputs.items (name no_name tag back_to.0)) → (z : Object (List ℕ))
          × (lies_of job.inputs order.inputs.items (name no_name tag back_to.0) ≡ Some z)
      some_there (Some z) e h = (z, e)
      some_there None e h = absurd (no_some (subst IsSome e h))
        where
          no_some : IsSome {T = Object (List ℕ)} None → ⊥
          no_some q = cc

  missing_performs : (x : Stand (List ℕ)) (b : BeginsAt job.script order x) (nm : List ℕ) (loss : Loss) (eye : SeatSeen)
      → TellsMissing order nm loss eye r → IsMissed digest order nm loss (Some eye) → Performs digest job gives order r
  missing_performs x b nm loss eye told missed = record {
    number = told.of.number;
    worker = told.of.worker;
    task = told.of.task;
    kind = subst (OfTask order.task) (sym told.end) (missing_kind order.task nm loss (Some eye));
    fits = λ board sound_board out rows there. absurd (there (subst IsMissing (sym told.end) tt));
    missed = subst (Missed digest order) (sym told.end) missed;
    says = λ o is apart. subst (Says J (real_inner job around) S.lower o) (seen o is)
        (missing_one tag mark frozen job around (json_reads_plain gives) o (lies_known job.inputs order.inputs.items) x
        (begins digest job gives o order is x b keyed apart) (waited_there o is apart x b) nm loss.number);
    lies = λ h p o lawful opened is e q allowed clear. subst (λ z. Lies S o (how_view r.copied.items z)) (sym told.end) tt;
    answers = λ h p o lawful opened is e q allowed clear. subst (AnswerIs digest job gives) (sym told.end) tt;
  }
    where
      seen : (o : OpenStart s.Desc) → OrderIs S o (order_view order)
          → record { number = o.number; spawned = []; end = report.missing nm loss.number }
          ≡ report_view order.number r.spawned.items (report_end r)
      seen o is =
          ap (λ k. record { number = k; spawned = []; end = report.missing nm loss.number }) (sym is.out.number)
          ∙ ap (λ ns. report_view order.number ns (how_view r.copied.items (rust_end.End.Missing nm loss (Some eye)))) (sym told.spawned)
          ∙ ap (λ z. report_view order.number r.spawned.items (how_view r.copied.items z)) (sym told.end)

  lost_missed : (nm : List ℕ) (loss : Loss) (eye : SeatSeen) → IsLost order.inputs.items nm loss eye → IsMissed digest order nm loss (Some eye)
  lost_missed nm loss eye l = go l.one.at refl l.at
    where
      go : (sp : Spot) → l.one.at ≡ sp → LostAt loss sp → IsMissed digest order nm loss (Some eye)
      go (Spot.Shelf p) e at =
          record {
            place = p;
            given = inl (spot_found nm order.inputs.items ∙ ap (option_map spot_at) l.found
                ∙ ap (λ sp. Some (spot_view sp)) e);
            worker = sym at;
            seen = in_to loss eye.losses l.seen;
          }
      go (Spot.Input i) e at = absurd at

  stack_missed : (loss : Loss) (eye : SeatSeen) → StackIsLost order loss eye
      → IsMissed digest order (own_name digest (λ (p : P). p.worker) order.main order.task) loss (Some eye)
  stack_missed loss eye l = record { place = l.place; given = inr (l.saved, refl); worker = l.worker; seen = in_to loss eye.losses l.seen }

  saved_there : (p : P) → order.saved ≡ Some p → GoesOnFrom shelves job.script order p
  saved_there p e = (subst (Saved shelves job.script order) e sound.saved).1

  pub performs : (eye : SeatSeen) → Ran digest shelves job.script job.inputs order eye r → Performs digest job gives order r
  performs eye (went x b w) = went_performs x b w
  performs eye (lost x b nm loss l told) = missing_performs x b nm loss eye told (lost_missed nm loss eye l)
  performs eye (stack loss l told) =
      let x = saved_begins shelves job order l.place l.saved (saved_there l.place l.saved) in
      missing_performs x.0 x.2 (own_name digest (λ (p : P). p.worker) order.main order.task) loss eye told (stack_missed loss eye l)

  -- ---- what lies at its places is sound

  end_at : (x : Stand (List ℕ)) → OfKind order.task x → (step : Step) (new : Stand (List ℕ)) (end : rust_end.End)
      → EndIs shelves order.worker order.task step new end → FitsAfter job.script new step → SameKind x step new
      → EndAt shelves order.worker job.script order.task end
  end_at x k (Step.Ended o) new (rust_end.End.Made ms) (m, one, made) f sk =
      subst (Each (λ (z : Made). ObjectAt shelves order.worker job.script z.place)) (sym one)
      (record { here = made.lies.here; worker = made.lies.worker; object = subst (HasObject job.script) (sym made.lies.block) f }, tt)
  end_at x k (Step.Ended o) new (rust_end.End.Saved p i waited kept mk) e f sk = absurd e
  end_at x k (Step.Ended o) new (rust_end.End.Shown a) e f sk = absurd e
  end_at x k (Step.Ended o) new (rust_end.End.Missing nm loss seen) e f sk = absurd e
  end_at x k Step.Waits new (rust_end.End.Made ms) e f sk = absurd e
  end_at x k Step.Waits new (rust_end.End.Saved p i waited kept mk) e f sk =
      record {
        here = e.lies.here;
        worker = e.lies.worker;
        stack =
            subst (HasStack (λ z. Fits job.script z × OfKind order.task z × (stand_wait z ≡ i) × (map held_name (pending_in same_text z) ≡ waited)
            × (map held_name (held_in same_text z) ≡ kept))) (sym e.lies.block)
            (f, kept_kind order.task x new k sk, sym e.wait, sym e.refs, sym e.holds);
      }
  end_at x k Step.Waits new (rust_end.End.Shown a) e f sk = absurd e
  end_at x k Step.Waits new (rust_end.End.Missing nm loss seen) e f sk = absurd e
  end_at x k (Step.Shown a) new (rust_end.End.Made ms) e f sk = absurd e
  end_at x k (Step.Shown a) new (rust_end.End.Saved p i waited kept mk) e f sk = absurd e
  end_at x k (Step.Shown a) new (rust_end.End.Shown c) e f sk = tt
  end_at x k (Step.Shown a) new (rust_end.End.Missing nm loss seen) e f sk = absurd e

  went_places : (x : Stand (List ℕ)) (b : BeginsAt job.script order x) (w : Went digest shelves job.script job.inputs order x r)
      → PlacesSound shelves order.worker job.script r
  went_places x b w = record {
    end = subst (λ z. EndAt shelves order.worker job.script z r.end) (sym w.of.task) (end_at x b.kind w.step w.new r.end w.end w.fits w.kind);
    copied = copies_sound shelves order.worker job.inputs order.inputs.items job.script (length job.inputs) sound.spots r.copied.items w.copies.0;
  }

  missing_places : (nm : List ℕ) (loss : Loss) (eye : SeatSeen) → eye.of ≡ shelves.of → TellsMissing order nm loss eye r
      → PlacesSound shelves order.worker job.script r
  missing_places nm loss eye of told = record {
    end = subst (EndAt shelves order.worker job.script r.task) (sym told.end) of;
    copied = subst (Each (λ (h : Held). CopyAt shelves order.worker job.script h.at)) (sym told.copied) tt;
  }

  pub places : (eye : SeatSeen) → eye.of ≡ shelves.of → Ran digest shelves job.script job.inputs order eye r
      → PlacesSound shelves order.worker job.script r
  places eye of (went x b w) = went_places x b w
  places eye of (lost x b nm loss l told) = missing_places nm loss eye of told
  places eye of (stack loss l told) = missing_places _ loss eye of told
