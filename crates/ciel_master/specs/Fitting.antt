-- When a report fits an order that is out: all that is asked of a report that the master takes.
use Rattle.std.specs.Prelude.{◌≡◌, ◌⊎◌, ℕ, List, Option, Some, true, nat_eq}
use Rattle.std.specs.List.{list_any}
use Rattle.sky_base.specs.Tree.{Script}
use Rattle.sky_base.specs.declared.object.Named.{Named}
use Rattle.ciel_master_board.specs.Board as b
use Rattle.ciel_master_board.specs.Board.{Board, find_order, shelf, spot_of}
use Rattle.ciel_master_board.specs.Sound.{own_name}
use Rattle.ciel_master_bring.specs.Brings.{worker_of}
use Rattle.ciel_journal.specs.Job.{Digest}
use Rattle.ciel_master_safe.specs.Reports.{FitsSafely}
use Rattle.ciel_store.specs.Seen.{SeatSeen, ShelvesSeen}
use Rattle.ciel_store.specs.declared.loss.Loss.{Loss}
use Rattle.ciel_task_order.specs.Performs.{HasSeen, IsMissing, OfTask}
use Rattle.ciel_task_order.specs.Views.{P, how_view}
use Rattle.ciel_task_order.specs.declared.block.Held.{Held}
use Rattle.ciel_task_order.specs.declared.report.End.{End}
use Rattle.ciel_task_order.specs.declared.report.Report.{Report}
use Rattle.ciel_master.specs.Marked.{IsPlanned, SeenOf}

-- it is of this order, and its end of the task's kind
pub record IsOf (x : b.OrderOut) (report : Report) : Type 0 where
  pub worker : report.worker ≡ x.worker
  pub task : report.task ≡ x.task
  pub kind : OfTask x.task report.end

module _ (digest : List ℕ → List ℕ) (shelves : ShelvesSeen) (sc : Script) (c : Board P) where
  -- what it spawned, made, saved and copied fits, unless something was missing
  abbrev pub FitsUnlessMissing : b.Order P → List Named → List Held → End → Type 0
  FitsUnlessMissing x spawned copied end = (IsMissing end → ⊥) → FitsSafely digest shelves sc c x spawned (how_view copied end)

module _ (digest : List ℕ → List ℕ) (c : Board P) where
  -- the place that the order gives for the name, or for its stack, is at the loss's worker; and the eye had seen that loss, or it is one
  -- of the plan that was carried out
  pub record MissedOf (x : b.Order P) (name : Digest) (loss : Loss) (seen : Option SeatSeen) : Type 0 where
    pub place : P
    pub given : (spot_of name x.inputs ≡ Some (shelf place)) ⊎ ((x.stack ≡ Some place) × (name ≡ own_name digest worker_of c.main x.out.task))
    pub worker : place.worker ≡ loss.worker
    pub known : HasSeen seen loss ⊎ (IsPlanned c.plan.losses loss × (list_any (nat_eq loss.worker) c.table.gone ≡ true))

  -- what is missing was brought along from a worker that is lost
  abbrev pub IsMissedOf : b.Order P → End → Type 0
  IsMissedOf x (End.Missing name loss seen) = MissedOf x name loss seen
  IsMissedOf x _ = Unit {0}

module _ (digest : List ℕ → List ℕ) (shelves : ShelvesSeen) (sc : Script) (c : Board P) where
  -- the report fits the order
  pub record FitsOrder (x : b.Order P) (report : Report) : Type 0 where
    pub of : IsOf x.out report
    pub whole : FitsUnlessMissing digest shelves sc c x report.spawned.items report.copied.items report.end
    pub missed : IsMissedOf digest c x report.end
    pub seen : SeenOf shelves report.end

  -- it fits one that is out
  abbrev pub FitsOneOut : Report → Type 0
  FitsOneOut report = (x : b.Order P) × (find_order report.number c.orders ≡ Some x.out) × FitsOrder x report
