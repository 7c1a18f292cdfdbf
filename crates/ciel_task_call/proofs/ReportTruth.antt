-- The report of a run of an order says what the job does.
use Rattle.std.proofs.Common.{◌≡◌, ℕ, List, [], ◌∷◌, map, Bool, true, false, Option, Some, None, ◌⊎◌, inl, inr, refl, sym, ap, ap₂, subst, ◌∙◌}
use Rattle.std.specs.List.{AllByRecursion, IsDistinct}
use Rattle.sha1.specs.Sha1.{sha1}
use Rattle.sky_base.specs.KitView.{Gives}
use Rattle.sky_base.specs.Name.{digested, held_name}
use Rattle.sky_base.specs.Needed as n
use Rattle.sky_base.specs.ObjectView.{object_view}
use Rattle.sky_base.specs.Res.{Object}
use Rattle.sky_base.specs.See as s
use Rattle.sky_base.specs.Val as v
use Rattle.sky_base.specs.Val.{call, distinct, input, known, out, same_text}
use Rattle.sky_base.specs.declared.object.Object as rust_object
use Rattle.sky_base.specs.declared.object.TaskId.{TaskId}
use Rattle.sky_base.proofs.Exact.{self_text}
use Rattle.sky_base_law.specs.Lower.{low_ref}
use Rattle.sky_base_law.specs.NamesLaws.{NoClash, ReadsAlike, Tag, no_name}
use Rattle.sky_base_law.specs.Refers.{PlainReads}
use Rattle.sky_base_law.specs.Tasks as t
use Rattle.sky_base_law.proofs.TaskOutputs.{distinct_in, same_exact}
use Rattle.sky_base_known.specs.Data.{data_of}
use Rattle.sky_state.specs.Pending.{pending_in}
use Rattle.sky_state.specs.Stand.{Stand}
use Rattle.sky_state.specs.Stands.{Stands}
use Rattle.sky_state.proofs.HeldLaw.{stands_pending}
use Rattle.sky_base_waves.specs.Seen.{WritesAlike}
use Rattle.ciel_task_call.specs.Steps.{stop_of}
use Rattle.ciel_task_call.specs.Step.{Step}
use Rattle.ciel_task_call.specs.Through.{PassedAt, asked_in}
use Rattle.ciel_task_call.proofs.AskedLemmas.{asked_passed}
use Rattle.ciel_master_board.specs.Follows.{OrderIs}
use Rattle.ciel_master_board.specs.Reports.{copy_names, end_view, made_keys, report_view}
use Rattle.ciel_master_board.specs.Setting.{Setting}
use Rattle.ciel_journal.specs.Entries.{low_names}
use Rattle.ciel_journal.specs.History.{OpenStart}
use Rattle.ciel_journal.specs.Job as j
use Rattle.ciel_journal.specs.Job.{Digest, Job, Task, of, show}
use Rattle.ciel_journal.specs.Known.{Inner}
use Rattle.ciel_journal.specs.Lawful.{Copied, Given}
use Rattle.ciel_json.specs.Around.{json_around}
use Rattle.ciel_json.proofs.LowLaw.{reads_named, text_named}
use Rattle.ciel_json.proofs.ReadLaw.{json_reads_plain}
use Rattle.ciel_journal_job.specs.Inner.{real_inner}
use Rattle.ciel_journal_job.specs.Real.{back}
use Rattle.ciel_journal_job.proofs.AlikeLaw.{wait_from}
use Rattle.ciel_journal_job.proofs.RealLaw.{in_to}
use Rattle.ciel_name.specs.Object.{object_bytes}
use Rattle.ciel_journal_job.specs.Report as report
use Rattle.ciel_journal_job.specs.Report.{Clear, End, FirstApart, MadeIs, Met, Report, Says, Spawns, StoppedIs, at_end, at_wait}
use Rattle.ciel_store.specs.Seen.{ShelvesSeen}
use Rattle.ciel_task_order.specs.Named.{name_of, mark_of, frozen_mark}
use Rattle.ciel_task_order.specs.Orders.{names_in}
use Rattle.ciel_task_order.specs.Shop as shop
use Rattle.ciel_task_order.specs.Shop.{InputsInOrder, shop_setting}
use Rattle.ciel_task_order.specs.Views.{P, copies_view, how_view, order_view, output_view, report_end}
use Rattle.ciel_task_order.specs.declared.block.Held.{Held}
use Rattle.ciel_task_order.specs.declared.order.Order.{Order}
use Rattle.ciel_task_order.specs.declared.report.End as rust_end
use Rattle.ciel_task_order.specs.declared.report.Made.{Made}
use Rattle.ciel_task_order.specs.declared.report.Report as rust
use Rattle.ciel_task_call.specs.Saying.{SaysWhere}
use Rattle.ciel_task_call.proofs.Says.{says_where}
use Rattle.ciel_task_inputs.specs.JournalWalksLaws.{CameTo, SaysAnd, WaitsAt, end_of, object_made, to_end, to_wait}
use Rattle.ciel_want.specs.History.{task_id}
use Rattle.ciel_task_inputs.proofs.Right.{haves_apart}
use Rattle.ciel_task_inputs.specs.Brought.{lies_known}
use Rattle.ciel_task_inputs.specs.Copies.{IsCopy}
use Rattle.ciel_task_inputs.proofs.CopiedObjects.{copies_named, copy_fetched}
use Rattle.ciel_task_inputs.proofs.FetchedNames.{tells_of}
use Rattle.sky_frozen_bytes.specs.Bytes.{frozen_bytes}
use Rattle.ciel_task_call.specs.Begins.{BeginsAt}
use Rattle.ciel_task_call.specs.Ends.{EndIs, IsMade}
use Rattle.ciel_task_call.specs.Runs.{Went, spawned_in}
use Rattle.ciel_task_call.proofs.ResumeStates.{begins, stands}
use Rattle.ciel_task_call.proofs.SpawnedNames.{same_made}

none_not : {A : Type 0} {a : A} → None ≡ Some a → ⊥
none_not e = cc

-- ---- a report with copies

abbrev pub with_copies : List Digest → End → End
with_copies names (report.made objects copied) = report.made objects names
with_copies names e = e

module _ {D B : Type 0} (job : Job D) (inner : Inner D) (lower : D → B) (o : OpenStart D) (names : List Digest) where
  -- descriptions of these names may be copied
  abbrev pub CopiesAre : Type 0
  CopiesAre = (copied : List D) × j.Each (Copied job o) copied × IsDistinct job.same copied × (names ≡ low_names job copied)

  spawns_too : (ds : List D) (bs : List B) (e : End) → Spawns job inner lower o ds bs e → Spawns job inner lower o ds bs (with_copies names e)
  spawns_too ds bs (report.made objects copied) h = h
  spawns_too ds bs (report.stopped k mark refs holds) h = h
  spawns_too ds bs (report.missing name loss) h = h

  made_too : (e : End) → CopiesAre → MadeIs job inner lower o e → MadeIs job inner lower o (with_copies names e)
  made_too (report.made objects copied) c (outputs, old, marked, each, distinct, is, named) = (outputs, c.0, marked, c.1, c.2, is, c.3)
  made_too (report.stopped k mark refs holds) c h = absurd h
  made_too (report.missing name loss) c h = h

  stopped_too : (i : ℕ) (ds : List D) (e : End) → StoppedIs job inner lower o i ds e → StoppedIs job inner lower o i ds (with_copies names e)
  stopped_too i ds (report.made objects copied) h = absurd h
  stopped_too i ds (report.stopped k mark refs holds) h = h
  stopped_too i ds (report.missing name loss) h = h

  -- where what is copied may be, once nothing that is made clashes, the report says so with the copies too
  pub says_copied : (number : ℕ) (bs : List B) (e : End) (Q : Type 0) → (Q → CopiesAre)
      → SaysAnd job inner lower o (record { number = number; spawned = bs; end = e }) Q
      → SaysAnd job inner lower o (record { number = number; spawned = bs; end = with_copies names e }) Q
  says_copied number bs e Q f (to_end ds nx sp tl g) = to_end ds nx sp (spawns_too ds bs e tl) (λ k. (made_too e (f (g k).1) (g k).0, (g k).1))
  says_copied number bs e Q f (to_wait i rs ds nx sp tl g) =
      to_wait i rs ds nx sp (spawns_too ds bs e tl) (λ k. (stopped_too i rs e (g k).0, (g k).1))

-- ---- lists

pub in_mapped : {A B : Type 0} (g : A → B) (xs : List A) (y : B) → t.In y (map g xs) → (x : A) × t.In x xs × (y ≡ g x)
in_mapped g [] y h = absurd h
in_mapped g (x ∷ xs) y (inl e) = (x, inl refl, e)
in_mapped g (x ∷ xs) y (inr h) = let more = in_mapped g xs y h in (more.0, inr more.1, more.2)

-- of different names the descriptions differ
distinct_of : {D : Type 0} (same : D → D → Bool) (f : D → Digest) → ((a b : D) → same a b ≡ true → a ≡ b) → (ds : List D)
    → IsDistinct same_text (map f ds) → IsDistinct same ds
unfolding IsDistinct
distinct_of same f exact [] h = tt
distinct_of same f exact (d ∷ ds) h = (apart ds h.0, distinct_of same f exact ds h.1)
  where
    no : true ≡ false → ⊥
    no e = cc

    one : (e : _) (b : Bool) → same d e ≡ b → same_text (f d) (f e) ≡ false → same d e ≡ false
    one e false q h = q
    one e true q h = absurd (no (sym (subst (λ x. same_text (f d) (f x) ≡ true) (exact d e q) (self_text (f d))) ∙ h))

    apart : (es : List _) → AllByRecursion (λ y. same_text (f d) y ≡ false) (map f es) → AllByRecursion (λ y. same d y ≡ false) es
    apart [] h = tt
    apart (e ∷ es) h = (one e (same d e) refl h.0, apart es h.1)

-- ---- what an order's run says

module _ (digest : List ℕ → List ℕ) (job : s.Job) (gives : Gives) (keyed : InputsInOrder job) (o : OpenStart s.Desc) (order : Order)
    (is : OrderIs (shop_setting digest job gives) o (order_view order)) (x : Stand (List ℕ)) (b : BeginsAt job.script order x)
    (apart : FirstApart (shop_setting digest job gives).job (shop_setting digest job gives).inner o) where
  abbrev S : Setting s.Desc P shop.Block
  S = shop_setting digest job gives

  abbrev J : Job s.Desc
  J = S.job

  abbrev tag : Tag
  tag = digested digest

  abbrev around : s.Around
  around = json_around gives

  abbrev mark : Object (List ℕ) → Digest
  mark y = sha1 (object_bytes y)

  abbrev frozen : Stand (List ℕ) → Digest
  frozen a = sha1 (frozen_bytes a)

  plain : PlainReads around
  plain = json_reads_plain gives

  alike : ReadsAlike tag around data_of
  alike bytes = reads_named tag bytes

  writes : WritesAlike tag around
  writes u = text_named tag u

  -- the task has states
  one : (u : Task s.Desc) (i : ℕ) → Stands job around tag x (back u) i → (back u ≡ n.Task.show) ⊎ ((d : s.Desc) × (t.maker d ≡ Some (back u)))
  one show i st = inl refl
  one (of (call f c vs)) i st = inr (call f c vs, refl)
  one (of (out y z m k)) i st = absurd (none_not st.1.1)
  one (of (input y)) i st = absurd (none_not st.1.1)
  one (of (known y)) i st = absurd y

  abbrev brought : v.Desc (List ℕ) → Option (Object (List ℕ))
  brought = lies_known job.inputs order.inputs.items

  module _ (shelves : ShelvesSeen) (r : rust.Report) (w : Went digest shelves job.script job.inputs order x r) where
    pub said : SaysWhere digest mark frozen job around o brought x w.new w.step [] (spawned_in digest shelves job.script job.inputs order r) w.through
    said = says_where digest mark frozen job around plain alike writes o brought x w.new w.step []
        (spawned_in digest shelves job.script job.inputs order r) (begins digest job gives o order is x b keyed apart) w.through

    abbrev Passed : Type 0
    Passed = (q : Stand (List ℕ)) → PassedAt brought digest job.script x w.new w.step []
        (spawned_in digest shelves job.script job.inputs order r) w.through q → WaitsAt tag mark frozen job around o q

    -- what was asked for on the way
    abbrev asked_for : List (v.Desc (List ℕ))
    asked_for = asked_in brought digest job.script x w.new w.step [] (spawned_in digest shelves job.script job.inputs order r) w.through

    -- ---- what was copied is what the task waited for

    module _ (passed : Passed) where
      pub copy_of : (c : Held) → IsCopy shelves order.worker job.inputs order.inputs.items c → t.In c.name (names_in r.copied.items)
          → (d : s.Desc) × Copied J o d × (c.name ≡ J.name d)
      copy_of c copy i = (
        back_to.0,
        (
          (
            at.j,
            at.ds,
            at.from,
            wait_from job around (name_of digest) (mark_of digest) (frozen_mark digest) o.task
                (one o.task o.from (stands digest job gives o order is x b)) at.j at.ds at.waits,
            in_to back_to.0 at.ds there,
          ),
          (copy_fetched digest job gives o order is shelves c copy back_to.0 given.0 named).0,
        ),
        named,
      )
        where
          told : (d : v.Desc (List ℕ)) × t.In d asked_for × (c.name ≡ held_name d)
          told = tells_of order.worker order.inputs.items asked_for r.end r.copied.items w.tells c.name i

          asked : (q : Stand (List ℕ)) × PassedAt brought digest job.script x w.new w.step []
              (spawned_in digest shelves job.script job.inputs order r) w.through q × t.In told.0 (pending_in same_text q)
          asked = asked_passed brought digest job.script x w.new w.step [] (spawned_in digest shelves job.script job.inputs order r) w.through
              told.0 told.1

          at : WaitsAt tag mark frozen job around o asked.0
          at = passed asked.0 asked.1

          no_clash : NoClash tag at.ds
          no_clash = haves_apart tag mark frozen job around plain o brought x (begins digest job gives o order is x b keyed apart) at.ds at.given

          pending : pending_in same_text asked.0 ≡ map (low_ref no_name tag) (distinct (λ (y z : ⊥). true) at.ds)
          pending = stands_pending tag job around asked.0 (back o.task) at.j at.ds at.stands at.waits no_clash

          back_to : (d : s.Desc) × t.In d (distinct (λ (y z : ⊥). true) at.ds) × (told.0 ≡ low_ref no_name tag d)
          back_to = in_mapped (low_ref no_name tag) (distinct (λ (y z : ⊥). true) at.ds) told.0 (subst (t.In told.0) pending asked.2)

          there : t.In back_to.0 at.ds
          there = distinct_in (λ (y z : ⊥). true) (λ y z q. absurd y) (λ y. absurd y) at.ds back_to.0 back_to.1

          given : Given J o back_to.0
          given = t_each at.ds at.given there
            where
              t_each : (ds : List s.Desc) → t.Each (Given J o) ds → t.In back_to.0 ds → Given J o back_to.0
              t_each [] h k = absurd k
              t_each (d ∷ ds) h (inl e) = subst (Given J o) (sym e) h.0
              t_each (d ∷ ds) h (inr k) = t_each ds h.1 k

          named : c.name ≡ J.name back_to.0
          named = told.2 ∙ ap held_name back_to.2

      copies_of : (cs : List Held) → t.Each (IsCopy shelves order.worker job.inputs order.inputs.items) cs
          → ((c : Held) → t.In c.name (names_in cs) → t.In c.name (names_in r.copied.items)) → (ds : List s.Desc) × j.Each (Copied J o) ds
          × (names_in cs ≡ low_names J ds)
      copies_of [] e f = ([], tt, refl)
      copies_of (c ∷ cs) e f =
          let first = copy_of c e.0 (f c (inl refl)) in
          let rest = copies_of cs e.1 (λ z i. f z (inr i)) in
          (first.0 ∷ rest.0, (first.1, rest.1), ap₂ (λ m ms. m ∷ ms) first.2 rest.2)

      low_map : (ds : List s.Desc) → low_names J ds ≡ map J.name ds
      low_map [] = refl
      low_map (d ∷ ds) = ap (λ ms. J.name d ∷ ms) (low_map ds)

      pub copies_are : CopiesAre J (real_inner job around) (S.lower) o (copy_names (copies_view r.copied.items))
      copies_are =
          let all = copies_of r.copied.items w.copies.0 (λ c i. i) in (
            all.0,
            all.1,
            distinct_of J.same J.name same_exact all.0 (subst (IsDistinct same_text) (all.2 ∙ low_map all.0) w.copies.1),
            copies_named digest shelves job.inputs order r.copied.items w.copies.0 ∙ all.2,
          )

    -- ---- the report

    abbrev names : List Digest
    names = copy_names (copies_view r.copied.items)

    abbrev end_said : Step → Stand (List ℕ) → End
    end_said step new = with_copies names (end_of tag mark frozen job around o.task (stop_of step new))

    task_made : (u : Task s.Desc) (obj : rust_object.Object) (m : Made) → order.task ≡ task_id J u → IsMade shelves order.worker order.task obj m
        → (m.name, m.mark) ∷ [] ≡ object_made tag mark frozen job around u (object_view obj)
    task_made show obj m e k = absurd (no (sym e ∙ k.name))
      where
        no : TaskId.Show ≡ TaskId.Of m.name → ⊥
        no q = cc
    task_made (of d) obj m e k = ap₂ (λ y z. (y, z) ∷ []) (same (sym k.name ∙ e)) k.mark
      where
        same : TaskId.Of m.name ≡ TaskId.Of (J.name d) → m.name ≡ J.name d
        same q = cc

    ends_same : (step : Step) (new : Stand (List ℕ)) (end : rust_end.End) → EndIs shelves order.worker order.task step new end
        → end_view (how_view r.copied.items end) ≡ end_said step new
    ends_same (Step.Ended obj) new (rust_end.End.Made ms) (m, one, k) =
        ap (λ xs. report.made (made_keys (map output_view xs)) names) one ∙ ap (λ xs. report.made xs names) (task_made o.task obj m is.out.task k)
    ends_same (Step.Ended obj) new (rust_end.End.Saved p i refs holds mk) k = absurd k
    ends_same (Step.Ended obj) new (rust_end.End.Shown a) k = absurd k
    ends_same (Step.Ended obj) new (rust_end.End.Missing nm loss seen) k = absurd k
    ends_same Step.Waits new (rust_end.End.Made ms) k = absurd k
    ends_same Step.Waits new (rust_end.End.Saved p i refs holds mk) k = (λ z. report.stopped (k.wait z) (k.mark z) (k.refs z) (k.holds z))
    ends_same Step.Waits new (rust_end.End.Shown a) k = absurd k
    ends_same Step.Waits new (rust_end.End.Missing nm loss seen) k = absurd k
    ends_same (Step.Shown a) new (rust_end.End.Made ms) k = absurd k
    ends_same (Step.Shown a) new (rust_end.End.Saved p i refs holds mk) k = absurd k
    ends_same (Step.Shown a) new (rust_end.End.Shown c) k = refl
    ends_same (Step.Shown a) new (rust_end.End.Missing nm loss seen) k = absurd k

    -- what the report says by names
    abbrev pub Q : Type 0
    Q = CameTo tag mark frozen job around o.task (stop_of w.step w.new) × Passed

    pub report_is : record { number = o.number; spawned = said.made; end = end_said w.step w.new }
        ≡ report_view order.number r.spawned.items (report_end r)
    report_is =
        let spawned = same_made digest r.spawned.items said.made said.grew in
        (λ z. record { number = sym is.out.number z; spawned = sym spawned z; end = sym (ends_same w.step w.new r.end w.end) z })

    -- it says what the job does; and where nothing that is made clashes, the task truly came to this, and went on from its own waits
    pub says_and : SaysAnd J (real_inner job around) S.lower o (report_view order.number r.spawned.items (report_end r)) Q
    says_and =
        subst (λ y. SaysAnd J (real_inner job around) S.lower o y Q) report_is
        (says_copied J (real_inner job around) S.lower o names o.number said.made
        (end_of tag mark frozen job around o.task (stop_of w.step w.new)) Q (λ h. copies_are h.1) said.says)
