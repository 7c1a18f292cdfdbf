-- Which task and worker come next: the turns of a run, and histories that keep to them.
use Rattle.std.specs.Prelude.{◌≡◌, ℕ, zero, suc, ◌+◌, ◌*◌, ◌/◌, ◌%◌, ◌^◌, ◌≤◌, ◌<◌, List, [], ◌∷◌, length, Bool, false, cond, not, ◌&&◌, Option, Some}
use Rattle.std.specs.Prelude.{None, nat_eq, nat_le, slice_get, ◌⊎◌}
use Rattle.std.specs.List.{list_any}
use Rattle.ciel_journal.specs.Graph.{Circle, Led, Picks, Runnable, standing_graph}
use Rattle.ciel_journal.specs.Job.{Task, show, of, Job}
use Rattle.ciel_journal.specs.History.{Event, start, done, saved, missed, lost, OpenStart, Standing, Plan, after, before_all}
use Rattle.ciel_journal.specs.Lawful.{Step}

-- ---- the generator

-- the state after so many draws
abbrev pub state_after : (seed draws : ℕ) → ℕ
state_after seed zero = seed
state_after seed (suc k) = (state_after seed k * 6364136223846793005 + 1442695040888963407) % 2 ^ 64

-- the draw of this number, from 0
abbrev pub draw : (seed number : ℕ) → ℕ
draw seed k = state_after seed (suc k) / 2 ^ 33

-- ---- workers

abbrev pub is_idle : (gone busy : List ℕ) → ℕ → Bool
is_idle gone busy w = not (list_any (nat_eq w) gone) && not (list_any (nat_eq w) busy)

abbrev pub idle_from : (gone busy : List ℕ) → (w n : ℕ) → List ℕ
idle_from gone busy w zero = []
idle_from gone busy w (suc n) =
    cond (is_idle gone busy w) (w ∷ idle_from gone busy (w + 1) n) (idle_from gone busy (w + 1) n)

-- of so many workers those that are neither lost nor busy, rising
abbrev pub idle_workers : (workers : ℕ) → (gone busy : List ℕ) → List ℕ
idle_workers workers gone busy = idle_from gone busy 0 workers

-- ---- losses, each a count of closes and a worker

abbrev pub due_test : (closes : ℕ) → (gone : List ℕ) → ℕ × ℕ → Bool
due_test closes gone x = nat_le x.0 closes && not (list_any (nat_eq x.1) gone)

module _ (losses : List (ℕ × ℕ)) (closes : ℕ) (gone : List ℕ) where
  -- the loss at this place of the list is due
  pub record IsDue (loss count worker : ℕ) : Type 0 where
    pub planned : slice_get losses loss ≡ Some (count, worker)
    pub reached : count ≤ closes
    pub here : list_any (nat_eq worker) gone ≡ false

  abbrev pub NothingDue : Type 0
  NothingDue = (loss count worker : ℕ) → IsDue loss count worker → ⊥

  -- the loss at this place is the first that is due, by its count and then by its place
  pub record FirstDue (loss worker : ℕ) : Type 0 where
    pub count : ℕ
    pub due : IsDue loss count worker
    pub least : (i k u : ℕ) → IsDue i k u → (count < k) ⊎ ((count ≡ k) × (loss ≤ i))

module _ {D : Type 0} (job : Job D) where
  -- ---- tasks

  -- the root task, and each task that makes what a reached task without an open Start waits for and isn't live
  abbrev pub Reached : Standing D → Task D → Type 0
  Reached v = Led (standing_graph job v)

  -- reached, without an open Start, and all that it waits for is live
  abbrev pub Ready : Standing D → Task D → Type 0
  Ready v = Runnable (standing_graph job v)

  abbrev pub is_first : D → Option (Task D) → Bool
  is_first d None = false
  is_first d (Some show) = false
  is_first d (Some (of e)) = job.same d e

  -- the tasks in the order of their first outputs, the root task last
  abbrev pub tasks_of : List D → List (Task D)
  tasks_of [] = show ∷ []
  tasks_of (d ∷ ds) = cond (is_first d (job.task_of d)) (of d ∷ tasks_of ds) (tasks_of ds)

  -- the ready tasks in their order
  abbrev pub IsReadyList : Standing D → List (Task D) → Type 0
  IsReadyList v ts = Picks (Ready v) (tasks_of v.book) ts

  -- ---- workers and losses

  abbrev pub busy : List (OpenStart D) → List ℕ
  busy [] = []
  busy (o ∷ os) = o.worker ∷ busy os

  -- the workers that aren't lost and have no open Start, rising
  abbrev pub idle : Plan → Standing D → List ℕ
  idle p v = idle_workers p.workers v.gone (busy v.orders)

  abbrev pub Undue : Plan → Standing D → Type 0
  Undue p v = NothingDue p.losses v.closes v.gone

  -- ---- turns

  -- nothing is due, and nothing can be started
  abbrev pub Rests : Plan → Standing D → Type 0
  Rests p v = Undue p v × (IsReadyList v [] ⊎ (idle p v ≡ []))

  -- nothing is due, and two draws choose the task and the worker
  pub record Chosen (p : Plan) (v : Standing D) (w : ℕ) (t : Task D) : Type 0 where
    pub nothing_due : Undue p v
    pub tasks : List (Task D)
    pub ready : IsReadyList v tasks
    pub task : slice_get tasks (draw p.seed (2 * v.starts) % length tasks) ≡ Some t
    pub worker : slice_get (idle p v) (draw p.seed (2 * v.starts + 1) % length (idle p v)) ≡ Some w

  abbrev pub Turn : Plan → Standing D → Event D → Type 0
  Turn p v (lost w closes) = (loss : ℕ) × FirstDue p.losses v.closes v.gone loss w
  Turn p v (start k w t from) = Chosen p v w t
  Turn p v (done k made copied spawned) = Rests p v
  Turn p v (saved k j mark refs holds spawned) = Rests p v
  Turn p v (missed k d loss) = Rests p v

  -- from what stands, these events are lawful and in their turns
  abbrev pub DrivenFrom : Plan → Standing D → List (Event D) → Type 0
  DrivenFrom p v [] = Unit {0}
  DrivenFrom p v (e ∷ es) = Step job p v e × Turn p v e × DrivenFrom p (after job v e) es

  -- a driven history
  abbrev pub Driven : Plan → List (Event D) → Type 0
  Driven p h = DrivenFrom p (before_all job) h

  -- ---- circles

  -- nothing is open, and these wait for each other in a circle
  abbrev pub CircleAtRest : Standing D → List D → Type 0
  CircleAtRest v ds = (v.orders ≡ []) × Circle (standing_graph job v) ds
