-- A report that fits its order passes the tests of the record that tells it.
use Rattle.std.proofs.Common.{◌≡◌, ℕ, List, [], ◌∷◌, length, map, refl, ap, sym, ◌∙◌, subst}
use Rattle.std.specs.BTreeMap.{BTreeMap}
use Rattle.std.proofs.lemmas.List.{length-map}
use Rattle.sky_base.specs.ObjectView.{object_view}
use Rattle.sky_base.specs.Res as res
use Rattle.sky_base.specs.Tree.{Script}
use Rattle.sky_base.specs.declared.object.Named.{Named}
use Rattle.sky_base.specs.declared.object.Object.{Object}
use Rattle.sky_base.specs.declared.object.TaskId.{TaskId}
use Rattle.sky_frozen_bytes.specs.Bytes.{frozen_bytes}
use Rattle.sky_frozen_bytes.specs.Spelled.{StandSpelled}
use Rattle.sky_state.specs.Stand.{Stand}
use Rattle.ciel_journal.specs.Job.{Digest, Each}
use Rattle.ciel_log_fits.specs.Known.{AfterSeen}
use Rattle.ciel_log_read.specs.declared.record.LoggedEnd.{LoggedEnd}
use Rattle.ciel_log_read.specs.declared.record.LoggedReport.{LoggedReport}
use Rattle.ciel_log_report.specs.Ends.{CopiedSo, IsEndOf, IsReportOf}
use Rattle.ciel_log_objects.specs.Objects.{IsCopyOf, IsKept, PassedThere, Passes}
use Rattle.ciel_log_report.specs.Tests.{CopiesPass, EndPasses, HasCome, ReportPasses}
use Rattle.ciel_master_board.specs.Board.{Board}
use Rattle.ciel_master_safe.specs.Safe.{IsStackOf}
use Rattle.ciel_store.specs.Seen.{ShelvesSeen}
use Rattle.ciel_task_order.specs.Orders.{HasStack, names_in}
use Rattle.ciel_task_order.specs.Performs.{IsMissing, OfTask}
use Rattle.ciel_task_order.specs.Shop as shop
use Rattle.ciel_task_order.specs.Shop.{block_view}
use Rattle.ciel_task_order.specs.Views.{P}
use Rattle.ciel_task_order.specs.declared.block.Block.{Block}
use Rattle.ciel_task_order.specs.declared.block.Held.{Held}
use Rattle.ciel_task_order.specs.declared.order.Order.{Order}
use Rattle.ciel_task_order.specs.declared.report.End.{End}
use Rattle.ciel_task_order.specs.declared.report.Made.{Made}
use Rattle.ciel_task_order.specs.declared.report.Report.{Report}
use Rattle.sky_state.specs.declared.shown.Shown.{Shown}
use Rattle.std.specs.Global.{Global}
use Rattle.std.specs.Prelude.{Vec}

one_object : (x y : res.Object (List ℕ)) → shop.Block.object x ≡ shop.Block.object y → x ≡ y
one_object x y e = cc

-- a stack lies there
some_stack : (Q : Stand (List ℕ) → Type 0) (block : Block) → HasStack Q block → (s : Stand (List ℕ)) × Q s
some_stack Q (Block.Object o) h = absurd h
some_stack Q (Block.Frozen s) h = (s, h)

of_show : (task : TaskId) (shown : Shown) → OfTask task (End.Shown shown) → task ≡ TaskId.Show
of_show TaskId.Show shown k = refl
of_show (TaskId.Of n) shown k = absurd k

of_other : (task : TaskId) (ms : Vec Made Global) → OfTask task (End.Made ms) → (n : Digest) × (task ≡ TaskId.Of n)
of_other TaskId.Show ms k = absurd k
of_other (TaskId.Of n) ms k = (n, refl)

module _ (digest : List ℕ → List ℕ) (shelves : ShelvesSeen) (sc : Script) (b : Board P) (kept : BTreeMap Digest Object) (order : Order)
    (spawned : List Named) where
  abbrev after_ : AfterSeen P
  after_ = record { table = b.table; spawned = spawned }

  objects_pass : (ms : List Made) (os : List Object)
      → map (λ (m : Made). block_view m.place.at.value) ms ≡ map (λ (o : Object). shop.Block.object (object_view o)) os
      → Each (λ (m : Made). PassedThere shelves order.worker sc after_ m.place) ms → Each (λ (o : Object). Passes sc after_ (object_view o)) os
  objects_pass [] [] e h = tt
  objects_pass [] (o ∷ os) e h = cc
  objects_pass (m ∷ ms) [] e h = cc
  objects_pass (m ∷ ms) (o ∷ os) e h =
      let one : block_view m.place.at.value ≡ shop.Block.object (object_view o) = cc in
      let rest : map (λ (m : Made). block_view m.place.at.value) ms ≡ map (λ (o : Object). shop.Block.object (object_view o)) os = cc in
      let same : h.0.0 ≡ object_view o = one_object h.0.0 (object_view o) (sym h.0.2.block ∙ one) in
      (subst (Passes sc after_) same h.0.1, objects_pass ms os rest h.1)

  copies_each : (hs : List Held) (names : List Digest) → names_in hs ≡ names → Each (IsCopyOf shelves order.worker sc after_ kept) hs
      → Each (IsKept sc after_ kept) names
  copies_each [] [] e h = tt
  copies_each [] (n ∷ ns) e h = cc
  copies_each (c ∷ hs) [] e h = cc
  copies_each (c ∷ hs) (n ∷ ns) e h =
      let name : c.name ≡ n = cc in
      let more : names_in hs ≡ ns = cc in
      (subst (IsKept sc after_ kept) name (h.0.2, h.0.3, h.0.4), copies_each hs ns more h.1)

  copies_pass : (names : List Digest) (hs : List Held) → CopiedSo order shelves sc after_ kept names hs → CopiesPass order sc after_ kept names
  copies_pass names hs c =
      record { elsewhere = c.elsewhere; distinct = c.distinct; all_kept = copies_each hs names c.copies.named c.copies.each }

  ends_pass : (end : LoggedEnd) (names : List Digest) (hs : List Held) (e : End) → IsEndOf order shelves sc after_ kept digest b end names hs e
      → EndPasses order sc after_ kept digest b names end
  ends_pass (LoggedEnd.Made objects) names hs e x =
      record {
        task = of_other order.task x.outputs x.kind;
        many = sym (length-map objects.items (λ (o : Object). shop.Block.object (object_view o))) ∙ (ap length (sym x.made.blocks)
            ∙ (length-map x.outputs.items (λ (m : Made). block_view m.place.at.value)
            ∙ (sym (length-map x.outputs.items (λ (m : Made). m.name)) ∙ ap length x.made.named)));
        copies = copies_pass names hs x.copied;
        each = objects_pass x.outputs.items objects.items x.made.blocks x.made.passed;
      }
  ends_pass (LoggedEnd.Saved j bytes) names hs e x =
      let s = some_stack (λ s. IsStackOf sc order.task j x.refs x.holds s × (frozen_bytes s ≡ bytes) × StandSpelled s) x.place.at.value x.saved.stack in
      record {
        none = x.no_names;
        later = x.saved.later;
        can = x.saved.can;
        stack = s.0;
        refs = x.refs;
        holds = x.holds;
        is_stack = s.1.0;
        spelled = s.1.2;
        bytes_of = s.1.1;
        refs_known = x.saved.refs_known;
        holds_known = x.saved.holds_known;
      }
  ends_pass (LoggedEnd.Answer bytes) names hs e x =
      record { task = of_show order.task (Shown.Text bytes) x.kind; copies = copies_pass names hs x.copied }
  ends_pass (LoggedEnd.Fault fault) names hs e x =
      record { task = of_show order.task (Shown.Fault fault) x.kind; copies = copies_pass names hs x.copied }
  ends_pass (LoggedEnd.Missing name number) names hs e x =
      record {
        nothing = x.nothing;
        none = x.no_names;
        loss = x.loss;
        is_loss = x.is_loss;
        planned = x.planned;
        lost = x.lost;
        given = x.given;
      }

  -- nothing was missing
  not_missing : (end : LoggedEnd) (names : List Digest) (hs : List Held) (e : End) → IsEndOf order shelves sc after_ kept digest b end names hs e
      → HasCome end → IsMissing e → ⊥
  not_missing (LoggedEnd.Made objects) names hs e x come i = subst IsMissing x.is i
  not_missing (LoggedEnd.Saved j bytes) names hs e x come i = subst IsMissing x.is i
  not_missing (LoggedEnd.Answer bytes) names hs e x come i = subst IsMissing x.is i
  not_missing (LoggedEnd.Fault fault) names hs e x come i = subst IsMissing x.is i
  not_missing (LoggedEnd.Missing name number) names hs e x come i = come

pub report_passes : (digest : List ℕ → List ℕ) (shelves : ShelvesSeen) (sc : Script) (b : Board P) (kept : BTreeMap Digest Object) (order : Order)
    (logged : LoggedReport) (r : Report) → IsReportOf digest shelves sc b kept order logged r → ReportPasses digest sc b kept order logged
report_passes digest shelves sc b kept order logged r x =
    let none = not_missing digest shelves sc b kept order r.spawned.items logged.end logged.copied.items r.copied.items r.end x.end in
    record {
      spawned = r.spawned.items;
      descs = x.spawned;
      named = x.named;
      passes = record {
        sound = λ come. x.sound (none come);
        whole = λ come. (x.passed (none come)).whole;
        inside = λ come. (x.passed (none come)).inside;
        ends = ends_pass digest shelves sc b kept order r.spawned.items logged.end logged.copied.items r.copied.items r.end x.end;
      };
    }
