-- What lies at the places of a report is the job's, and what is shown is the job's answer, unless two descriptions share a name.
use Rattle.std.proofs.Common.{◌≡◌, ℕ, List, [], ◌∷◌, map, Some, None, inl, inr, refl, sym, ap, subst, ◌∙◌}
use Rattle.std.specs.Option.{option_map}
use Rattle.sha1.specs.Sha1.{sha1}
use Rattle.sky_base.specs.KitView.{Gives}
use Rattle.sky_base.specs.Name.{digested}
use Rattle.sky_base.specs.Needed as n
use Rattle.sky_base.specs.Needed.{stands_at}
use Rattle.sky_base.specs.ObjectView.{object_view}
use Rattle.sky_base.specs.Res.{Object}
use Rattle.sky_base.specs.See as s
use Rattle.sky_base.specs.See.{see}
use Rattle.sky_base.specs.Val.{call, input, known, out}
use Rattle.sky_base.specs.declared.object.Object as rust_object
use Rattle.sky_base_law.specs.Lower.{low_obj}
use Rattle.sky_base_law.specs.NamesLaws.{Tag, no_name}
use Rattle.sky_base_law.specs.Tasks as t
use Rattle.sky_state_law.specs.Moves.{EndsAs}
use Rattle.ciel_task_call.specs.Steps.{stop_of}
use Rattle.ciel_task_call.specs.Step.{Step}
use Rattle.ciel_task_order.specs.Shows.{shown_view}
use Rattle.sky_state.specs.Pending.{stand_wait}
use Rattle.sky_state.specs.Stand.{Stand, low_state}
use Rattle.sky_state.specs.Stands.{Stands}
use Rattle.ciel_master_board.specs.Follows.{OrderIs}
use Rattle.ciel_master_board.specs.Laws.{CopyLies, Lies, LiesUnlessClash, OutputLies}
use Rattle.ciel_master_board.specs.Reports.{end_view, report_view}
use Rattle.ciel_master_board.specs.Setting.{HasObject, HasState, Setting}
use Rattle.ciel_journal.specs.History.{Event, OpenStart, Plan, after, find_open, standing}
use Rattle.ciel_journal.specs.Job as j
use Rattle.ciel_journal.specs.Job.{Digest, IsJob, Job, Task, of, show}
use Rattle.ciel_journal.specs.Known.{Knows}
use Rattle.ciel_journal.specs.Lawful.{Allowed, HeldAt, Lawful, NoClash}
use Rattle.ciel_journal.proofs.Published.{book_apart}
use Rattle.ciel_json.specs.Around.{json_around}
use Rattle.ciel_json.proofs.ReadLaw.{json_reads_plain}
use Rattle.ciel_journal_job.specs.Inner.{real_inner}
use Rattle.ciel_journal_job.specs.Real.{back}
use Rattle.ciel_journal_job.proofs.KnownLaw.{real_knows}
use Rattle.ciel_journal_job.proofs.RealLaw.{real_laws}
use Rattle.ciel_name.specs.Object.{object_bytes}
use Rattle.ciel_journal_job.specs.Report.{FirstApart, IsMissing, at_first, report_of}
use Rattle.ciel_store.specs.Seen.{ShelvesSeen}
use Rattle.ciel_task_order.specs.Named.{frozen_mark, mark_of, name_of, object_by_names, state_by_names}
use Rattle.ciel_task_order.specs.Performs.{AnswerIs, AnswersUnlessClash}
use Rattle.ciel_task_order.specs.Shop as shop
use Rattle.ciel_task_order.specs.Shop.{InputsInOrder, block_view, shop_setting}
use Rattle.ciel_task_order.specs.Views.{P, copies_view, how_view, order_view, output_view, report_end}
use Rattle.ciel_task_order.specs.declared.block.Block.{Block}
use Rattle.ciel_task_order.specs.declared.block.Held.{Held}
use Rattle.ciel_task_order.specs.declared.order.Order.{Order}
use Rattle.ciel_task_order.specs.declared.report.End as rust_end
use Rattle.ciel_task_order.specs.declared.report.Report as rust
use Rattle.ciel_task_inputs.specs.JournalWalksLaws.{CameTo}
use Rattle.ciel_task_inputs.specs.Copies.{IsCopy}
use Rattle.ciel_task_inputs.proofs.CopiedObjects.{copy_fetched, copy_seen}
use Rattle.ciel_task_inputs.proofs.NameSpots.{found_stands, names_brought}
use Rattle.sky_frozen_bytes.specs.Bytes.{frozen_bytes}
use Rattle.ciel_task_call.specs.Begins.{BeginsAt}
use Rattle.ciel_task_call.specs.Ends.{EndIs, LiesAt}
use Rattle.ciel_task_call.specs.Runs.{Went}
use Rattle.ciel_task_call.proofs.ResumeStates.{stands}
use Rattle.ciel_task_call.proofs.NameClashes.{fetched_booked, held_booked, met_booked, truly}
use Rattle.ciel_task_call.proofs.ReportTruth.{Q, says_and}

none_not : {A : Type 0} {a : A} → None ≡ Some a → ⊥
none_not e = cc

-- a run that came to something isn't missing
pub not_missing : (shelves : ShelvesSeen) (w : ℕ) (task : _) (step : Step) (new : Stand (List ℕ)) (end : rust_end.End) (cs : List Held)
    → EndIs shelves w task step new end → IsMissing (end_view (how_view cs end)) → ⊥
not_missing shelves w task (Step.Ended o) new (rust_end.End.Made ms) cs k m = m
not_missing shelves w task (Step.Ended o) new (rust_end.End.Saved p i refs holds mk) cs k m = k
not_missing shelves w task (Step.Ended o) new (rust_end.End.Shown a) cs k m = k
not_missing shelves w task (Step.Ended o) new (rust_end.End.Missing nm loss seen) cs k m = k
not_missing shelves w task Step.Waits new (rust_end.End.Made ms) cs k m = k
not_missing shelves w task Step.Waits new (rust_end.End.Saved p i refs holds mk) cs k m = m
not_missing shelves w task Step.Waits new (rust_end.End.Shown a) cs k m = k
not_missing shelves w task Step.Waits new (rust_end.End.Missing nm loss seen) cs k m = k
not_missing shelves w task (Step.Shown a) new (rust_end.End.Made ms) cs k m = k
not_missing shelves w task (Step.Shown a) new (rust_end.End.Saved p i refs holds mk) cs k m = k
not_missing shelves w task (Step.Shown a) new (rust_end.End.Shown c) cs k m = m
not_missing shelves w task (Step.Shown a) new (rust_end.End.Missing nm loss seen) cs k m = k

module _ (digest : List ℕ → List ℕ) (job : s.Job) (gives : Gives) (keyed : InputsInOrder job) (order : Order) (h : List (Event s.Desc))
    (p : Plan) (o : OpenStart s.Desc) where
  abbrev S : Setting s.Desc P shop.Block
  S = shop_setting digest job gives

  abbrev J : Job s.Desc
  J = S.job

  abbrev tag : Tag
  tag = digested digest

  abbrev around : s.Around
  around = json_around gives

  abbrev mark : Object (List ℕ) → Digest
  mark y = sha1 (object_bytes y)

  abbrev frozen : Stand (List ℕ) → Digest
  frozen a = sha1 (frozen_bytes a)

  laws : IsJob J
  laws = real_laws job around (name_of digest) (mark_of digest) (frozen_mark digest)

  knows : Knows J (real_inner job around)
  knows = real_knows job around (name_of digest) (mark_of digest) (frozen_mark digest) (json_reads_plain gives)

  module _ (lawful : Lawful J p h) (opened : find_open J order.number (standing J h).orders ≡ Some o) (is : OrderIs S o (order_view order))
      (x : Stand (List ℕ)) (b : BeginsAt job.script order x) (shelves : ShelvesSeen) (r : rust.Report)
      (w : Went digest shelves job.script job.inputs order x r) where
    booked_apart : NoClash J (standing J h).book
    booked_apart = book_apart J laws p h lawful

    apart : FirstApart J S.inner o
    apart d e f g q =
        booked_apart d e (met_booked J laws (real_inner job around) knows S.lower p h lawful order.number o opened d (at_first f))
        (met_booked J laws (real_inner job around) knows S.lower p h lawful order.number o opened e (at_first g)) q

    -- ---- what was copied

    copy_lies : (c : Held) (copy : IsCopy shelves order.worker job.inputs order.inputs.items c)
        → CopyLies S o (record { name = c.name; place = copy.place })
    copy_lies c copy d copied q = subst (HasObject S copy.place) same (copy_fetched digest job gives o order is shelves c copy e.0 e.1 e.2).1
      where
        e : (e : s.Desc) × (HeldAt J o.task o.from e) × (c.name ≡ J.name e)
        e = is.only c.name (subst (j.In c.name) (sym (names_brought order.inputs.items))
            (found_stands c.name order.inputs.items copy.from copy.found))

        same : e.0 ≡ d
        same =
            booked_apart e.0 d (held_booked J laws (real_inner job around) knows S.lower p h lawful order.number o opened e.0 e.1)
            (fetched_booked J laws (real_inner job around) knows S.lower p h lawful order.number o opened d copied.1.0 copied.1.1)
            (sym e.2 ∙ q)

    copies_lie : (cs : List Held) → t.Each (IsCopy shelves order.worker job.inputs order.inputs.items) cs → j.Each (CopyLies S o) (copies_view cs)
    copies_lie [] e = tt
    copies_lie (c ∷ cs) e =
        subst (j.Each (CopyLies S o)) (sym (copy_seen digest shelves job.inputs order c e.0 cs)) (copy_lies c e.0, copies_lie cs e.1)

    -- ---- what was made, and where it stands

    block_object : (q : P) (y : Object (List ℕ)) (obj : rust_object.Object) → LiesAt shelves order.worker (Block.Object obj) q → y
        ≡ object_view obj → shop.Block.object y ≡ block_view q.at.value
    block_object q y obj at e = ap shop.Block.object e ∙ sym (ap block_view at.block)

    seen_object : (d : s.Desc) (obj : rust_object.Object) (q : P) → EndsAs tag job around (n.Task.of d) (object_view obj)
        → LiesAt shelves order.worker (Block.Object obj) q → HasObject S q d
    seen_object d obj q (k, y, e, low) at =
        (k, ap (option_map (λ z. shop.Block.object (object_by_names digest z))) e ∙ ap Some (block_object q (low_obj no_name tag y) obj at (sym low)))

    output_lies : (u : Task s.Desc) (i : ℕ) (obj : rust_object.Object) (q : P) → Stands job around tag x (back u) i
        → EndsAs tag job around (back u) (object_view obj) → LiesAt shelves order.worker (Block.Object obj) q → (d : s.Desc)
        → j.In d (J.outputs u) → HasObject S q d
    output_lies show i obj q st ends at d k = absurd ends
    output_lies (of (call f c vs)) i obj q st ends at d (inl e) = subst (HasObject S q) (sym e) (seen_object (call f c vs) obj q ends at)
    output_lies (of (call f c vs)) i obj q st ends at d (inr k) = absurd k
    output_lies (of (out y z m l)) i obj q st ends at d k = absurd (none_not st.1.1)
    output_lies (of (input y)) i obj q st ends at d k = absurd (none_not st.1.1)
    output_lies (of (known y)) i obj q st ends at d k = absurd y

    block_stack : (q : P) (a : n.State) (new : Stand (List ℕ)) → LiesAt shelves order.worker (Block.Frozen new) q → new ≡ low_state tag a
        → shop.Block.stack (low_state tag a) ≡ block_view q.at.value
    block_stack q a new at e = ap shop.Block.stack (sym e) ∙ sym (ap block_view at.block)

    stack_lies : (new : Stand (List ℕ)) (q : P) (i : ℕ) → Stands job around tag new (back o.task) (stand_wait new) → i ≡ stand_wait new
        → LiesAt shelves order.worker (Block.Frozen new) q → HasState S q o.task i
    stack_lies new q i (a, (k, e), low) same at =
        subst (HasState S q o.task) (sym same) (
          k,
          ap (option_map (λ z. shop.Block.stack (state_by_names digest z))) e
              ∙ ap Some (block_stack q a new at low),
        )

    lies_of : (step : Step) (new : Stand (List ℕ)) (end : rust_end.End) → EndIs shelves order.worker order.task step new end
        → CameTo tag mark frozen job around o.task (stop_of step new) → Lies S o (how_view r.copied.items end)
    lies_of (Step.Ended obj) new (rust_end.End.Made ms) (m, one, k) came = (
      subst (λ xs. j.Each (OutputLies S o) (map output_view xs)) (sym one)
          ((λ d i q. output_lies o.task o.from obj m.place (stands digest job gives o order is x b) came k.lies d i), tt),
      copies_lie r.copied.items w.copies.0,
    )
    lies_of (Step.Ended obj) new (rust_end.End.Saved q i refs holds mk) k came = absurd k
    lies_of (Step.Ended obj) new (rust_end.End.Shown a) k came = absurd k
    lies_of (Step.Ended obj) new (rust_end.End.Missing nm loss seen) k came = absurd k
    lies_of Step.Waits new (rust_end.End.Made ms) k came = absurd k
    lies_of Step.Waits new (rust_end.End.Saved q i refs holds mk) k came = stack_lies new q i came k.wait k.lies
    lies_of Step.Waits new (rust_end.End.Shown a) k came = absurd k
    lies_of Step.Waits new (rust_end.End.Missing nm loss seen) k came = absurd k
    lies_of (Step.Shown a) new (rust_end.End.Made ms) k came = absurd k
    lies_of (Step.Shown a) new (rust_end.End.Saved q i refs holds mk) k came = absurd k
    lies_of (Step.Shown a) new (rust_end.End.Shown c) k came = (tt, copies_lie r.copied.items w.copies.0)
    lies_of (Step.Shown a) new (rust_end.End.Missing nm loss seen) k came = absurd k

    answer_of : (u : Task s.Desc) (step : Step) (new : Stand (List ℕ)) (end : rust_end.End) → EndIs shelves order.worker order.task step new end
        → CameTo tag mark frozen job around u (stop_of step new) → AnswerIs digest job gives end
    answer_of show (Step.Shown a) new (rust_end.End.Shown c) k came = subst (λ z. s.Means job around (shown_view z)) (sym k) came
    answer_of (of d) (Step.Shown a) new (rust_end.End.Shown c) k came = absurd came
    answer_of u (Step.Ended obj) new (rust_end.End.Shown c) k came = absurd k
    answer_of u Step.Waits new (rust_end.End.Shown c) k came = absurd k
    answer_of u step new (rust_end.End.Made ms) k came = tt
    answer_of u step new (rust_end.End.Saved q i refs holds mk) k came = tt
    answer_of u step new (rust_end.End.Missing nm loss seen) k came = tt

    came_true : (e : Event s.Desc) → report_of J S.inner S.lower e ≡ Some (report_view order.number r.spawned.items (report_end r))
        → Allowed J p (standing J h) e → NoClash J (after J (standing J h) e).book → Q digest job gives keyed o order is x b apart shelves r w
    came_true e told allowed clear =
        truly J laws (real_inner job around) knows S.lower p h lawful order.number o opened
        (report_view order.number r.spawned.items (report_end r)) (Q digest job gives keyed o order is x b apart shelves r w) refl
        (not_missing shelves order.worker order.task w.step w.new r.end r.copied.items w.end)
        (says_and digest job gives keyed o order is x b apart shelves r w) e told allowed clear

    pub lies : LiesUnlessClash S h p o order.number r.spawned.items (report_end r)
    lies e told allowed clear = lies_of w.step w.new r.end w.end (came_true e told allowed clear).0

    pub answers : AnswersUnlessClash digest job gives h p order.number r
    answers e told allowed clear = answer_of o.task w.step w.new r.end w.end (came_true e told allowed clear).0
