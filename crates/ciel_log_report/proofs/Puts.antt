-- A report that a record tells of an order fits the order.
use Rattle.std.proofs.Common.{◌≡◌, ℕ, List, [], ◌∷◌, map, None, refl, ap, sym, subst}
use Rattle.std.specs.BTreeMap.{BTreeMap}
use Rattle.std.specs.List.{IsDistinct}
use Rattle.sha1.specs.Sha1.{sha1}
use Rattle.sky_base.specs.Name.{held_name}
use Rattle.sky_base.specs.ObjectView.{object_view}
use Rattle.sky_base.specs.Res as res
use Rattle.sky_base.specs.Res.{object_refs}
use Rattle.sky_base.specs.Tree.{Script}
use Rattle.sky_base.specs.Val.{same_text}
use Rattle.sky_base.specs.declared.object.Named.{Named}
use Rattle.sky_base.specs.declared.object.Object.{Object}
use Rattle.sky_base.specs.declared.object.TaskId.{TaskId}
use Rattle.sky_base_law.specs.Sound.{SoundObject}
use Rattle.sky_frozen_bytes.specs.Bytes.{frozen_bytes}
use Rattle.sky_frozen_bytes.specs.Spelled.{StandSpelled}
use Rattle.ciel_journal.specs.Job.{Digest, Each}
use Rattle.ciel_master_board.specs.Board.{Board}
use Rattle.ciel_master_board.specs.Reports.{learned_all}
use Rattle.ciel_master_safe.specs.Safe.{IsStackOf}
use Rattle.ciel_store.specs.Seen.{ShelvesSeen}
use Rattle.ciel_table.specs.Seen.{TableSeen}
use Rattle.ciel_task_order.specs.Orders.{HasObject, HasStack, names_in}
use Rattle.ciel_task_order.specs.Performs.{OfTask, block_refs}
use Rattle.ciel_task_order.specs.Shop as shop
use Rattle.ciel_task_order.specs.Shop.{block_view}
use Rattle.ciel_task_order.specs.Views.{P}
use Rattle.ciel_task_order.specs.declared.block.Block.{Block}
use Rattle.ciel_task_order.specs.declared.block.Held.{Held}
use Rattle.ciel_task_order.specs.declared.order.Order.{Order}
use Rattle.ciel_task_order.specs.declared.report.End.{End}
use Rattle.ciel_task_order.specs.declared.report.Made.{Made}
use Rattle.ciel_task_order.specs.declared.report.Report.{Report}
use Rattle.ciel_want.specs.Waited.{AllKnown}
use Rattle.ciel_log_fits.specs.Given.{IsElsewhere}
use Rattle.ciel_log_fits.specs.Known.{AfterSeen}
use Rattle.ciel_log_fits.specs.Read.{CopiesPut, CopyPut, EndPut, IsPut, ObjectPut}
use Rattle.ciel_log_read.specs.declared.record.LoggedEnd.{LoggedEnd}
use Rattle.ciel_log_read.specs.declared.record.LoggedReport.{LoggedReport}
use Rattle.ciel_log_report.specs.Ends.{CopiedSo, IsEndOf, IsMadeOf, IsReportOf, IsSavedOf}
use Rattle.ciel_log_objects.specs.Objects.{IsCopyOf, LiesThere, PassedThere, Passes}

-- ---- what lies at a place

object_there : (sc : Script) (block : Block) (o : res.Object (List ℕ)) → block_view block ≡ shop.Block.object o → SoundObject sc o → HasObject sc block
object_there sc (Block.Object x) o e s = let same : object_view x ≡ o = cc in subst (SoundObject sc) (sym same) s
object_there sc (Block.Frozen x) o e s = absurd cc

refs_there : (block : Block) (o : res.Object (List ℕ)) → block_view block ≡ shop.Block.object o → block_refs block ≡ object_refs o
refs_there (Block.Object x) o e = let same : object_view x ≡ o = cc in ap object_refs same
refs_there (Block.Frozen x) o e = absurd cc

stack_there : (sc : Script) (order : Order) (j : ℕ) (bytes : List ℕ) (refs holds : List Digest) (block : Block)
    → HasStack (λ s. IsStackOf sc order.task j refs holds s × (frozen_bytes s ≡ bytes) × StandSpelled s) block → HasStack (IsStackOf sc order.task j refs holds) block
stack_there sc order j bytes refs holds (Block.Object x) h = absurd h
stack_there sc order j bytes refs holds (Block.Frozen x) h = h.0

module _ (digest : List ℕ → List ℕ) (shelves : ShelvesSeen) (sc : Script) (b : Board P) (kept : BTreeMap Digest Object) (order : Order)
    (spawned : List Named) where
  abbrev t : TableSeen P
  t = learned_all digest spawned b.table

  abbrev after : AfterSeen P
  after = record { table = b.table; spawned = spawned }

  object_put : (p : P) (o : res.Object (List ℕ)) → Passes sc after o → LiesThere shelves order.worker o p → ObjectPut digest shelves sc b order t p
  object_put p o s l =
      record {
        place = l.place;
        here = l.here;
        object = object_there sc p.at.value o l.block s.sound;
        known = subst (λ ds. AllKnown t (map held_name ds)) (sym (refs_there p.at.value o l.block)) (s.known digest);
      }

  outputs_put : (ms : List Made) → Each (λ (m : Made). PassedThere shelves order.worker sc after m.place) ms
      → Each (λ (m : Made). ObjectPut digest shelves sc b order t m.place) ms
  outputs_put [] h = tt
  outputs_put (m ∷ ms) h = (object_put m.place h.0.0 h.0.1 h.0.2, outputs_put ms h.1)

  -- ---- what was copied

  copies_each : (hs : List Held) (names : List Digest) → names_in hs ≡ names → Each (IsCopyOf shelves order.worker sc after kept) hs
      → Each (IsElsewhere order) names → Each (CopyPut digest shelves sc b order t) hs
  copies_each [] names e h x = tt
  copies_each (c ∷ hs) [] e h x = absurd cc
  copies_each (c ∷ hs) (n ∷ ns) e h x =
      let name : c.name ≡ n = cc in
      let more : names_in hs ≡ ns = cc in
      let k = h.0 in (
        record {
          at = k.0;
          is = k.1;
          put = object_put k.0 (object_view k.2) k.4 k.5;
          elsewhere = subst (IsElsewhere order) (sym name) x.0;
        },
        copies_each hs ns more h.1 x.1,
      )

  copies_put : (names : List Digest) (hs : List Held) → CopiedSo order shelves sc after kept names hs → CopiesPut digest shelves sc b order t hs
  copies_put names hs c =
      record {
        each = copies_each hs names c.copies.named c.copies.each c.elsewhere;
        distinct = subst (IsDistinct same_text) (sym c.copies.named) c.distinct;
      }

  -- ---- the end

  abbrev Put : List Held → End → Type 0
  Put hs end = OfTask order.task end × EndPut digest shelves sc b order t hs end

  made_put : (objects : List Object) (names : List Digest) (hs : List Held) (end : End)
      → IsMadeOf order shelves sc after kept digest objects names hs end → Put hs end
  made_put objects names hs end x =
      subst (Put hs) (sym x.is) (x.kind, (x.made.named, outputs_put x.outputs.items x.made.passed, copies_put names hs x.copied))

  saved_put : (j : ℕ) (bytes : List ℕ) (names : List Digest) (hs : List Held) (end : End) → IsSavedOf order shelves sc after j bytes names hs end → Put hs end
  saved_put j bytes names hs end x =
      let s = x.saved in
      subst (Put hs) (sym x.is) (
        any order.task,
        record {
          can = s.can;
          place = s.place;
          here = s.here;
          stack = stack_there sc order j bytes x.refs x.holds x.place.at.value s.stack;
          later = s.later;
          refs = s.refs_known digest;
          holds = s.holds_known digest;
        },
      )
    where
      any : (task : TaskId) → OfTask task (End.Saved x.place j x.refs x.holds (sha1 bytes))
      any TaskId.Show = tt
      any (TaskId.Of n) = tt

  end_put : (end : LoggedEnd) (names : List Digest) (hs : List Held) (e : End) → IsEndOf order shelves sc after kept digest b end names hs e → Put hs e
  end_put (LoggedEnd.Made objects) names hs e x = made_put objects.items names hs e x
  end_put (LoggedEnd.Saved j bytes) names hs e x = saved_put j bytes names hs e x
  end_put (LoggedEnd.Answer bytes) names hs e x = subst (Put hs) (sym x.is) (x.kind, copies_put names hs x.copied)
  end_put (LoggedEnd.Fault fault) names hs e x = subst (Put hs) (sym x.is) (x.kind, copies_put names hs x.copied)
  end_put (LoggedEnd.Missing name number) names hs e x =
      subst (Put hs) (sym x.is) (any order.task, (x.given, refl, x.planned, x.lost))
    where
      any : (task : TaskId) → OfTask task (End.Missing name x.loss None)
      any TaskId.Show = tt
      any (TaskId.Of n) = tt

-- what such a report is
pub is_put : (digest : List ℕ → List ℕ) (shelves : ShelvesSeen) (sc : Script) (b : Board P) (kept : BTreeMap Digest Object) (order : Order)
    (logged : LoggedReport) (r : Report) → IsReportOf digest shelves sc b kept order logged r → IsPut digest shelves sc b order r
is_put digest shelves sc b kept order logged r x =
    let end = end_put digest shelves sc b kept order r.spawned.items logged.end logged.copied.items r.copied.items r.end x.end in
    record {
      number = x.number;
      worker = x.worker;
      task = x.task;
      kind = end.0;
      spawned = x.passed;
      end = end.1;
    }
