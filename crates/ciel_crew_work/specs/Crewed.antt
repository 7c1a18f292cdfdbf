-- What a crew of long-lived workers keeps, and what its workers do.
use Rattle.std.specs.Prelude.{◌≡◌, ◌≤◌, ◌<◌, ℕ, List, [], ◌∷◌, length, map, slice_index_or, Option, Some, None, IfOk, IfSome, is_some, not}
use Rattle.std.specs.Arc.{arc_value}
use Rattle.sky_base.specs.JobView.{job_view}
use Rattle.sky_base.specs.KitView.{Gives}
use Rattle.sky_base.specs.declared.object.TaskId.{TaskId}
use Rattle.ciel_task.specs.Onward.{IsRead}
use Rattle.ciel_gate.specs.Entered.{IsEntered}
use Rattle.ciel_crew_lanes.specs.Seen.{LaneSeen, lane_at}
use Rattle.ciel_store.specs.Seen.{SeatSeen}
use Rattle.ciel_task_order.specs.Shop.{InputsInOrder}
use Rattle.ciel_task_order.specs.declared.order.Order.{Order}
use Rattle.ciel_task_order.specs.declared.shop.Shop.{Shop}
use Rattle.ciel_task.specs.Crews.{Answers, Takes, extended}
use Rattle.ciel_crew_work.specs.declared.performing.Done.{Done}
use Rattle.ciel_crew_work.specs.declared.performing.Job.{Job}
use Rattle.ciel_crew_work.specs.declared.performing.Tools.{Tools}

-- ---- one order

-- for each kit what it gives, and for each namer its digest
module _ {K N G R : Type 0} (gives : K → Gives) (digest : N → List ℕ → List ℕ) where
  -- a worker of the shop can perform the order, with an eye at its shelves
  pub record CanBeDone (job : Job K N G R) : Type 0 where
    pub takes : Takes gives digest (arc_value job.shop) job.order
    pub inputs : InputsInOrder (job_view (arc_value job.shop).job)
    pub read : IsRead (job_view (arc_value job.shop).job).script
    pub look : job.tools.eye.of ≡ (arc_value job.shop).shelves.of

  -- the order is that of the job, the gate has entered its task, the eye looks where it looked, and the report is one that a worker may give
  -- of the order
  pub record IsDoneOf (entered : G → Option (List TaskId)) (job : Job K N G R) (done : Done G) : Type 0 where
    pub order : done.order ≡ job.order
    pub gate : IsEntered (entered job.tools.gate) job.order.task (entered done.tools.gate)
    pub look : done.tools.eye.of ≡ job.tools.eye.of
    pub report : IfOk done.report (Answers gives digest (arc_value job.shop) job.order)

-- ---- all workers

module _ {K N G R : Type 0} where
  abbrev pub order_in : Option (Job K N G R) → Option Order
  order_in None = None
  order_in (Some job) = Some job.order

  -- the order of each worker that has one
  abbrev pub orders_of : List (LaneSeen (Job K N G R)) → List (Option Order)
  orders_of lanes = map (λ l. order_in l.out) lanes

  -- what a gate tells, or will tell after the order that is out
  abbrev pub lane_told : (G → Option (List TaskId)) → Option (Job K N G R) → Option (Tools G) → Option (List TaskId)
  lane_told entered None None = None
  lane_told entered None (Some tools) = entered tools.gate
  lane_told entered (Some job) idle = extended (entered job.tools.gate) job.order.task

  abbrev pub lanes_told : (G → Option (List TaskId)) → List (LaneSeen (Job K N G R)) → List (Option (Tools G)) → List (Option (List TaskId))
  lanes_told entered [] idle = []
  lanes_told entered (l ∷ ls) [] = lane_told entered l.out None ∷ lanes_told entered ls []
  lanes_told entered (l ∷ ls) (t ∷ ts) = lane_told entered l.out t ∷ lanes_told entered ls ts

  -- a worker has its gate and eye here, or an order of this worker is out with them
  pub record KeepsAt (shop : Shop K N) (worker : ℕ) (out : Option (Job K N G R)) (idle : Option (Tools G)) : Type 0 where
    pub one : is_some idle ≡ not (is_some out)
    pub order : IfSome out (λ job. (arc_value job.shop ≡ shop) × (job.order.worker ≡ worker) × (job.tools.eye.of ≡ shop.shelves.of))
    pub look : IfSome idle (λ tools. tools.eye.of ≡ shop.shelves.of)

  pub record Keeps (shop : Shop K N) (lanes : List (LaneSeen (Job K N G R))) (idle : List (Option (Tools G))) : Type 0 where
    pub same : length idle ≡ length lanes
    pub each : (k : ℕ) → k < length lanes → KeepsAt shop k (lane_at lanes k).out (slice_index_or idle k None)

  -- the job's script is read from bytes, its inputs stand in order, the workers keep so, and there is room for all gates
  pub record Stands (shop : Shop K N) (lanes : List (LaneSeen (Job K N G R))) (idle : List (Option (Tools G))) (gates : List G) (room : ℕ) : Type
      0 where
    pub read : IsRead (job_view shop.job).script
    pub inputs : InputsInOrder (job_view shop.job)
    pub keeps : Keeps shop lanes idle
    pub empty : gates ≡ []
    pub enough : length idle ≤ room

-- each gate with its eye
abbrev pub tools_of : {G : Type 0} → List G → List SeatSeen → List (Option (Tools G))
tools_of [] eyes = []
tools_of (g ∷ gates) [] = []
tools_of (g ∷ gates) (x ∷ eyes) = Some record { gate = g; eye = x } ∷ tools_of gates eyes

-- the gates in order: of idle workers, and between them those that come back
abbrev pub gathered : {G : Type 0} → List (Option (Tools G)) → List (ℕ × Done G) → List G
gathered [] outs = []
gathered (Some tools ∷ idle) outs = tools.gate ∷ gathered idle outs
gathered (None ∷ idle) [] = gathered idle []
gathered (None ∷ idle) (o ∷ outs) = o.1.tools.gate ∷ gathered idle outs
