-- What lies at the places of a report that a worker of a shop gives.
use Rattle.std.proofs.Common.{◌≡◌, ◌<◌, ◌^◌, ◌++◌, ℕ, zero, suc, List, [], ◌∷◌, Result, Ok, Err, MatchResult, Vec, ap₂, arith, get_or, length, map}
use Rattle.std.proofs.Common.{◌∙◌, Global, ap, refl, subst, sym}
use Rattle.std.proofs.lemmas.Result.{MatchResult-at_err, MatchResult-at_ok}
use Rattle.sky_base.specs.ObjectView.{desc_view}
use Rattle.sky_base.specs.Tree.{Script}
use Rattle.sky_base.specs.Val.{known}
use Rattle.sky_base.specs.declared.object.Named.{Named}
use Rattle.sky_base.specs.declared.object.TaskId.{TaskId}
use Rattle.sky_base_law.specs.Tasks.{Each}
use Rattle.sky_frozen_bytes.specs.Bytes.{frozen_bytes}
use Rattle.sky_state.specs.Stand.{Stand}
use Rattle.ciel_name.specs.Spelled.{IsName}
use Rattle.ciel_name_law.specs.Told.{DescTold, ObjectTold}
use Rattle.ciel_store.specs.Seen.{PlaceSeen, SeatSeen, ShelvesSeen}
use Rattle.ciel_store.specs.declared.shelves.Gone.{Gone}
use Rattle.ciel_task_order.specs.Orders.{HasObject, HasStack}
use Rattle.ciel_task_order.specs.Places.{EndAt, ObjectAt}
use Rattle.ciel_task_order.specs.Shop as shop
use Rattle.ciel_task_order.specs.Shop.{block_view}
use Rattle.ciel_task_order.specs.declared.block.Block.{Block}
use Rattle.ciel_task_order.specs.declared.report.End.{End}
use Rattle.ciel_task_order.specs.declared.report.Made.{Made}
use Rattle.ciel_task_order.specs.declared.report.Report.{Report}
use Rattle.ciel_log_records.specs.Records.{HowEnded, dropped_record, end_bytes, report_opening}
use Rattle.ciel_log.specs.Logging.{GivesPlace, IsRecordOf, dropped, told_copies, whole}
use Rattle.ciel_log.specs.Reading.{AllAt, IsObject, IsStack, OutputThere, PutEnd, Sees, object_of, object_there}

pub each_there : {A : Type 0} (P : A → Type 0) (xs : List A) (i : ℕ) (d : A) → i < length xs → Each P xs → P (get_or xs i d)
each_there P [] i d under each = absurd (omega (arith, under))
each_there P (x ∷ xs) zero d under each = each.0
each_there P (x ∷ xs) (suc i) d under each = each_there P xs i d (omega (arith, under)) each.1

pub is_object : (sc : Script) (b : Block) → HasObject sc b → IsObject b
is_object sc (Block.Object o) has = tt
is_object sc (Block.Frozen s) has = has

pub is_stack : (P : Stand (List ℕ) → Type 0) (b : Block) → HasStack P b → IsStack b
is_stack P (Block.Object o) has = has
is_stack P (Block.Frozen s) has = tt

object_lies : (b : Block) → IsObject b → block_view b ≡ shop.Block.object (object_there b)
object_lies (Block.Object o) is = refl
object_lies (Block.Frozen s) is = absurd is

-- what lies at the places is these objects
pub objects_lie : (shelves : ShelvesSeen) (ms : List Made) → Each (OutputThere shelves) ms
    → map (λ (m : Made). block_view m.place.at.value) ms ≡ map shop.Block.object (map object_of ms)
objects_lie shelves [] each = refl
objects_lie shelves (m ∷ ms) each = ap₂ (λ b bs. b ∷ bs) (object_lies m.place.at.value each.0.1) (objects_lie shelves ms each.1)

module _ (shelves : ShelvesSeen) (worker : ℕ) (sc : Script) where
  pub outputs_there : (ms : List Made) → Each (λ (m : Made). ObjectAt shelves worker sc m.place) ms → Each (OutputThere shelves) ms
  outputs_there [] each = tt
  outputs_there (m ∷ ms) each = ((each.0.here, is_object sc m.place.at.value each.0.object), outputs_there ms each.1)

  pub outputs_at : (ms : List Made) → Each (λ (m : Made). ObjectAt shelves worker sc m.place) ms → AllAt worker ms
  outputs_at [] each = tt
  outputs_at (m ∷ ms) each = (each.0.worker, outputs_at ms each.1)

  -- ---- what was put of an end

  abbrev PutSo : End → (before after : List ℕ) → (eye seen : SeatSeen) → Result Unit Gone → Type 0
  PutSo end before after eye seen r =
      MatchResult r (λ _. PutEnd end before after × (seen ≡ eye)) (λ gone. GivesPlace end × Sees worker eye seen gone.loss)

  abbrev OutputsSo : List Made → (before after : List ℕ) → (eye seen : SeatSeen) → Result Unit Gone → Type 0
  OutputsSo ms before after eye seen r =
      MatchResult r (λ _. Each ObjectTold (map object_of ms) × (after ≡ before ++ end_bytes (HowEnded.made (map object_of ms))) × (seen ≡ eye))
      (λ gone. (0 < length ms) × ((w : ℕ) → AllAt w ms → Sees w eye seen gone.loss))

  abbrev StackSo : PlaceSeen Block → ℕ → (before after : List ℕ) → (eye seen : SeatSeen) → Result Unit Gone → Type 0
  StackSo p j before after eye seen r =
      MatchResult r (λ _. ((s : Stand (List ℕ)) × (block_view p.at.value ≡ shop.Block.stack s)
      × (after ≡ before ++ end_bytes (HowEnded.saved j (frozen_bytes s)))) × (j < 2 ^ 32) × (seen ≡ eye)) (λ gone. Sees p.worker eye seen gone.loss)

  module _ (task : TaskId) (before after : List ℕ) (eye seen : SeatSeen) where
    made_put : (ms : Vec Made Global) → EndAt shelves worker sc task (End.Made ms) → (r : Result Unit Gone)
        → OutputsSo ms.items before after eye seen r → PutSo (End.Made ms) before after eye seen r
    made_put ms at (Ok x) put = (
      (HowEnded.made (map object_of ms.items), (map object_of ms.items, objects_lie shelves ms.items (outputs_there ms.items at), refl), put.0, put.1),
      put.2,
    )
    made_put ms at (Err gone) put = (put.0, put.1 worker (outputs_at ms.items at))

    pub made_end : (end : End) (ms : Vec Made Global) (xs : List Made) → end ≡ End.Made ms → xs ≡ ms.items → EndAt shelves worker sc task end
        → (r : Result Unit Gone) → OutputsSo xs before after eye seen r → PutSo end before after eye seen r
    made_end end ms xs is same at r put =
        subst (λ e. PutSo e before after eye seen r) (sym is)
        (made_put ms (subst (EndAt shelves worker sc task) is at) r (subst (λ ys. OutputsSo ys before after eye seen r) same put))

    stack_put : (p : PlaceSeen Block) (j : ℕ) (refs holds : List (List ℕ)) (mark : List ℕ)
        → EndAt shelves worker sc task (End.Saved p j refs holds mark) → (r : Result Unit Gone)
        → StackSo p j before after eye seen r → PutSo (End.Saved p j refs holds mark) before after eye seen r
    stack_put p j refs holds mark at (Ok x) put =
        ((HowEnded.saved j (frozen_bytes put.0.0), (put.0.0, put.0.1, refl), put.1, put.0.2), put.2)
    stack_put p j refs holds mark at (Err gone) put = (tt, (put.0 ∙ at.worker, put.1))

    pub stack_end : (end : End) (p : PlaceSeen Block) (j : ℕ) (refs holds : List (List ℕ)) (mark : List ℕ) → end ≡ End.Saved p j refs holds mark
        → EndAt shelves worker sc task end → (r : Result Unit Gone)
        → StackSo p j before after eye seen r → PutSo end before after eye seen r
    stack_end end p j refs holds mark is at r put =
        subst (λ e. PutSo e before after eye seen r) (sym is)
        (stack_put p j refs holds mark (subst (EndAt shelves worker sc task) is at) r put)

  -- ---- the record of a report with this end

  module _ (r : Report) (opening after : List ℕ) (eye seen : SeatSeen) (put : Result Unit Gone) (so : PutSo r.end opening after eye seen put) where
    abbrev Put : Type 0
    Put = PutEnd r.end opening after × (seen ≡ eye)

    abbrev Lost : Gone → Type 0
    Lost gone = GivesPlace r.end × Sees worker eye seen gone.loss

    pub told_whole : (u : Unit) → put ≡ Ok u → r.number < 2 ^ 64 → Each (λ (n : Named). DescTold (desc_view n.desc)) r.spawned.items
        → Each (λ n. IsName (known n)) (told_copies r)
        → opening ≡ report_opening r.number (map (λ (n : Named). desc_view n.desc) r.spawned.items) (told_copies r)
        → IsRecordOf r eye.losses seen.losses after
    told_whole u is number spawned copied opened =
        let it = MatchResult-at_ok (λ _. Put) Lost u is so in
        whole it.0.0 it.0.1 (record { number = number; spawned = spawned; copied = copied; end = it.0.2 }) (it.0.3 ∙ ap (λ o. o ++ end_bytes it.0.0) opened) (ap (λ (e : SeatSeen). e.losses) it.1)

    pub told_dropped : (gone : Gone) → put ≡ Err gone → worker ≡ r.worker → (bytes : List ℕ) → bytes ≡ dropped_record r.number
        → IsRecordOf r eye.losses seen.losses bytes
    told_dropped gone is same bytes record_is =
        let it = MatchResult-at_err (λ _. Put) Lost gone is so in
        dropped gone.loss it.0 (it.1.0 ∙ same) record_is it.1.1
