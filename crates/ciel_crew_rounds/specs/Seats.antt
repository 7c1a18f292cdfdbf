-- What a crew keeps of its workers that performs its orders by rounds.
use Rattle.std.specs.Prelude.{◌≡◌, ℕ, ◌≤◌, ◌<◌, ◌^◌, List, [], ◌∷◌, ◌++◌, length, map, slice_index_or, Option, Some, None, IfOk, IfSome}
use Rattle.std.specs.Prelude.{option_to_list}
use Rattle.std.specs.Arc.{arc_value}
use Rattle.sky_base.specs.JobView.{job_view}
use Rattle.sky_base.specs.KitView.{Gives}
use Rattle.sky_base.specs.declared.object.TaskId.{TaskId}
use Rattle.ciel_crew_work.specs.Onward.{IsRead}
use Rattle.ciel_store.specs.Seen.{SeatSeen}
use Rattle.ciel_crew_lanes.specs.Seen.{LaneSeen}
use Rattle.ciel_task_order.specs.Shop.{InputsInOrder}
use Rattle.ciel_task_order.specs.declared.order.Order.{Order}
use Rattle.ciel_task_order.specs.declared.shop.Shop.{Shop}
use Rattle.ciel_task_crew.specs.Crews.{Answers, Fades, extended}
use Rattle.ciel_crew_work.specs.Crewed.{CanBeDone}
use Rattle.ciel_crew_work.specs.declared.performing.Done.{Done}
use Rattle.ciel_crew_work.specs.declared.performing.Job.{Job}
use Rattle.ciel_crew_work.specs.declared.performing.Tools.{Tools}
use Rattle.ciel_crew_rounds.specs.declared.seat.Seat.{Seat}
use Rattle.ciel_crew_rounds.specs.declared.seat.Seat.TheVariants.{Idle, Sent, Away, Kept, Vacant}

-- ---- one worker

-- a report that this worker may give of its order, with an eye at the shop's shelves
pub record IsReportOf {K N G : Type 0} (gives : K → Gives) (digest : N → List ℕ → List ℕ) (shop : Shop K N) (worker : ℕ) (done : Done G) : Type
    0 where
  pub for : done.order.worker ≡ worker
  pub look : done.tools.eye.of ≡ shop.shelves.of
  pub report : IfOk done.report (Answers gives digest shop done.order)

module _ {K N G R : Type 0} where
  -- the order whose report wasn't given yet
  abbrev pub order_of : Seat K N G R → Option Order
  order_of (Idle tools) = None
  order_of (Sent job) = Some job.order
  order_of (Away job) = Some job.value.order
  order_of (Kept done) = Some done.order
  order_of Vacant = None

  -- what the gate tells, or will tell after the order that is still to be performed
  abbrev pub told_of : (G → Option (List TaskId)) → Seat K N G R → Option (List TaskId)
  told_of entered (Idle tools) = entered tools.gate
  told_of entered (Sent job) = extended (entered job.tools.gate) job.order.task
  told_of entered (Away job) = extended (entered job.value.tools.gate) job.value.order.task
  told_of entered (Kept done) = entered done.tools.gate
  told_of entered Vacant = None

  -- the gate and the eye of a worker with no order, the job that was sent and not yet put on its lane, the job that is at its lane, and the
  -- report that is kept
  abbrev pub idle_of : Seat K N G R → Option (Tools G)
  idle_of (Idle tools) = Some tools
  idle_of (Sent job) = None
  idle_of (Away job) = None
  idle_of (Kept done) = None
  idle_of Vacant = None

  abbrev pub sent_of : Seat K N G R → Option (Job K N G R)
  sent_of (Idle tools) = None
  sent_of (Sent job) = Some job
  sent_of (Away job) = None
  sent_of (Kept done) = None
  sent_of Vacant = None

  abbrev pub away_of : Seat K N G R → Option (Job K N G R)
  away_of (Idle tools) = None
  away_of (Sent job) = None
  away_of (Away job) = Some job.value
  away_of (Kept done) = None
  away_of Vacant = None

  abbrev pub kept_of : Seat K N G R → Option (Done G)
  kept_of (Idle tools) = None
  kept_of (Sent job) = None
  kept_of (Away job) = None
  kept_of (Kept done) = Some done
  kept_of Vacant = None

  -- the gate, where nothing is still to be performed
  abbrev pub gate_in : Seat K N G R → Option G
  gate_in (Idle tools) = Some tools.gate
  gate_in (Sent job) = None
  gate_in (Away job) = None
  gate_in (Kept done) = Some done.tools.gate
  gate_in Vacant = None

  module _ (gives : K → Gives) (digest : N → List ℕ → List ℕ) (shop : Shop K N) where
    -- a job of this shop and of this worker, which can be done
    pub record IsJobOf (worker : ℕ) (job : Job K N G R) : Type 0 where
      pub can : CanBeDone gives digest job
      pub own : arc_value job.shop ≡ shop
      pub for : job.order.worker ≡ worker

    -- what is kept of a worker is its own and of this shop
    abbrev pub IsSeatOf : ℕ → Seat K N G R → Type 0
    IsSeatOf worker (Idle tools) = tools.eye.of ≡ shop.shelves.of
    IsSeatOf worker (Sent job) = IsJobOf worker job
    IsSeatOf worker (Away job) = IsJobOf worker job.value
    IsSeatOf worker (Kept done) = IsReportOf gives digest shop worker done
    IsSeatOf worker Vacant = ⊥

  -- a worker in a round: its order is the same, its gate tells the same or tells it no longer, and what was its own and of a shop is so
  pub record Goes (gives : K → Gives) (digest : N → List ℕ → List ℕ) (entered : G → Option (List TaskId)) (before after : Seat K N G R) : Type 0
    where
      pub order : order_of after ≡ order_of before
      pub told : Fades (told_of entered before) (told_of entered after)
      pub own : (shop : Shop K N) (worker : ℕ) → IsSeatOf gives digest shop worker before → IsSeatOf gives digest shop worker after

-- ---- all workers

module _ {K N G R : Type 0} where
  abbrev pub seat_at : List (Seat K N G R) → ℕ → Seat K N G R
  seat_at seats k = slice_index_or seats k Vacant

  -- the job that each lane has out
  abbrev pub outs_of : List (LaneSeen (Job K N G R)) → List (Option (Job K N G R))
  outs_of lanes = map (λ l. l.out) lanes

  -- the gates, in order of workers
  abbrev pub gates_in : List (Seat K N G R) → List G
  gates_in [] = []
  gates_in (s ∷ seats) = option_to_list (gate_in s) ++ gates_in seats

  module _ (gives : K → Gives) (digest : N → List ℕ → List ℕ) where
    -- each worker went so
    abbrev pub GoEach : (G → Option (List TaskId)) → (before after : List (Seat K N G R)) → Type 0
    GoEach entered before after =
        (length after ≡ length before) × ((k : ℕ) → Goes gives digest entered (seat_at before k) (seat_at after k))

    -- a round can be played: each job that was sent can be done, and the lanes have out what is away
    pub record CanPlay (lanes : List (LaneSeen (Job K N G R))) (seats : List (Seat K N G R)) : Type 0 where
      pub few : length seats < 2 ^ 32
      pub outs : outs_of lanes ≡ map away_of seats
      pub can : (k : ℕ) → IfSome (sent_of (seat_at seats k)) (CanBeDone gives digest)

    -- the job's script is read from bytes, its inputs stand in order, what is kept of each worker is its own, the lanes have out what is away,
    -- and there is room for all gates
    pub record Stands (shop : Shop K N) (lanes : List (LaneSeen (Job K N G R))) (seats : List (Seat K N G R)) (gates : List G)
        (room : ℕ) : Type 0 where
      pub read : IsRead (job_view shop.job).script
      pub inputs : InputsInOrder (job_view shop.job)
      pub few : length seats < 2 ^ 32
      pub outs : outs_of lanes ≡ map away_of seats
      pub each : (k : ℕ) → k < length seats → IsSeatOf gives digest shop k (seat_at seats k)
      pub empty : gates ≡ []
      pub enough : length seats ≤ room

-- nothing is still to be performed
abbrev pub IsHome : {K N G R : Type 0} → List (Seat K N G R) → Type 0
IsHome seats = (k : ℕ) → (sent_of (seat_at seats k) ≡ None) × (away_of (seat_at seats k) ≡ None)

-- each worker with its gate and its eye, and with no order
abbrev pub seats_of : {K N G R : Type 0} → List G → List SeatSeen → List (Seat K N G R)
seats_of [] eyes = []
seats_of (g ∷ gates) [] = []
seats_of (g ∷ gates) (x ∷ eyes) = Idle record { gate = g; eye = x } ∷ seats_of gates eyes
