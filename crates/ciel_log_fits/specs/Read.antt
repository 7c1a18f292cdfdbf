-- What is so of a report that was read, once its parts passed the tests and its blocks were put on a shelf: then it fits.
use Rattle.std.specs.Prelude.{◌≡◌, ◌<◌, ℕ, List, Some, None, map, nat_eq, true}
use Rattle.std.specs.List.{IsDistinct, list_any}
use Rattle.sky_base.specs.Tree.{Script}
use Rattle.sky_base.specs.Val.{same_text}
use Rattle.sky_base.specs.declared.object.Named.{Named}
use Rattle.ciel_journal.specs.Job.{Each}
use Rattle.ciel_master.specs.Fitting.{FitsOneOut}
use Rattle.ciel_master.specs.Marked.{IsPlanned}
use Rattle.ciel_master_board.specs.Board.{Board, find_order, start_refs}
use Rattle.ciel_master_board.specs.Reports.{IsNamed, learned_all, named_view}
use Rattle.ciel_master_safe.specs.Reports.{CanWait, StandsWhole, outputs_of}
use Rattle.ciel_master_safe.specs.Safe.{GoesBy, IsStackOf, Serves}
use Rattle.ciel_store.specs.Seen.{IsPlaceOf, ShelvesSeen}
use Rattle.ciel_table.specs.Seen.{TableSeen}
use Rattle.ciel_task_order.specs.Orders.{HasObject, HasStack, names_in}
use Rattle.ciel_task_order.specs.Performs.{BlockKnown, HasRows, IsMissing, OfTask}
use Rattle.ciel_task_order.specs.Views.{P, out_view}
use Rattle.ciel_task_order.specs.declared.block.Held.{Held}
use Rattle.ciel_task_order.specs.declared.block.Spot.{Spot}
use Rattle.ciel_task_order.specs.declared.order.Order.{Order}
use Rattle.ciel_task_order.specs.declared.report.End.{End}
use Rattle.ciel_task_order.specs.declared.report.Made.{Made}
use Rattle.ciel_task_order.specs.declared.report.Report.{Report}
use Rattle.ciel_want.specs.Waited.{AllKnown}
use Rattle.ciel_log_fits.specs.Given.{IsElsewhere, IsGivenAt}

-- the order is out, and the master has rows for all that it speaks of
pub record IsOut (digest : List ℕ → List ℕ) (sc : Script) (b : Board P) (order : Order) : Type 0 where
  pub out : find_order order.number b.orders ≡ Some (out_view order)
  pub rows : HasRows digest b.table order
  pub goes : GoesBy b.table order.task order.desc
  pub main : order.main ≡ b.main
  pub keys : b.keys ≡ sc.keys

-- what was spawned has its names, can be served, stands whole, and all that stands inside it has rows then
pub record SpawnedPass (digest : List ℕ → List ℕ) (sc : Script) (t : TableSeen P) (spawned : List Named) : Type 0 where
  pub named : Each (IsNamed digest) spawned
  pub serves : Each (λ (n : Named). Serves sc sc.keys n.desc) spawned
  pub whole : Each (λ (n : Named). StandsWhole (map named_view spawned) (named_view n)) spawned
  pub inside : Each (λ (n : Named). AllKnown (learned_all digest spawned t) (start_refs n.desc)) spawned

module _ (digest : List ℕ → List ℕ) (shelves : ShelvesSeen) (sc : Script) (b : Board P) (order : Order) where
  -- an object that is sound for the script, and refers to what has rows, was put on the shelf of the order's worker
  pub record ObjectPut (t : TableSeen P) (p : P) : Type 0 where
    pub place : IsPlaceOf shelves p
    pub here : p.worker ≡ order.worker
    pub object : HasObject sc p.at.value
    pub known : BlockKnown t p

  -- so was a copy of what the order brings along from another worker
  pub record CopyPut (t : TableSeen P) (h : Held) : Type 0 where
    pub at : P
    pub is : h.at ≡ Spot.Shelf at
    pub put : ObjectPut t at
    pub elsewhere : IsElsewhere order h.name

  pub record CopiesPut (t : TableSeen P) (hs : List Held) : Type 0 where
    pub each : Each (CopyPut t) hs
    pub distinct : IsDistinct same_text (names_in hs)

  -- and the stack of a task that may wait, at a later wait than the order's
  pub record StackPut (t : TableSeen P) (p : P) (j : ℕ) (waited held : List (List ℕ)) : Type 0 where
    pub can : CanWait order.task order.desc
    pub place : IsPlaceOf shelves p
    pub here : p.worker ≡ order.worker
    pub stack : HasStack (IsStackOf sc order.task j waited held) p.at.value
    pub later : order.from < j
    pub refs : AllKnown t waited
    pub holds : AllKnown t held

  -- The end: each output of the task was put, in order, or the stack; what was missing the order gives at the worker of a loss that the
  -- plan has and that was carried out
  abbrev pub EndPut : TableSeen P → List Held → End → Type 0
  EndPut t copied (End.Made ms) =
      (map (λ (m : Made). m.name) ms.items ≡ outputs_of digest order.desc) × Each (λ (m : Made). ObjectPut t m.place) ms.items × CopiesPut t copied
  EndPut t copied (End.Saved p j refs holds mark) = StackPut t p j refs holds
  EndPut t copied (End.Shown shown) = CopiesPut t copied
  EndPut t copied (End.Missing name loss seen) =
      IsGivenAt digest order name loss.worker × (seen ≡ None) × IsPlanned b.plan.losses loss × (list_any (nat_eq loss.worker) b.table.gone ≡ true)

  -- the report is of the order, and all this is so of it
  pub record IsPut (r : Report) : Type 0 where
    pub number : r.number ≡ order.number
    pub worker : r.worker ≡ order.worker
    pub task : r.task ≡ order.task
    pub kind : OfTask order.task r.end
    pub spawned : (IsMissing r.end → ⊥) → SpawnedPass digest sc b.table r.spawned.items
    pub end : EndPut (learned_all digest r.spawned.items b.table) r.copied.items r.end

-- such a report fits the order
abbrev pub ReadReportsFit : Type 0
ReadReportsFit =
    (digest : List ℕ → List ℕ) (shelves : ShelvesSeen) (sc : Script) (b : Board P) (order : Order) (r : Report)
    → IsOut digest sc b order → IsPut digest shelves sc b order r → FitsOneOut digest shelves sc b r
