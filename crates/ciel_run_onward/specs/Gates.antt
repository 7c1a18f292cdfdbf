-- What the gates of a run tell that goes on from a log.
use Rattle.std.specs.Prelude.{◌≡◌, ℕ, ◌<◌, List, [], ◌∷◌, ◌++◌, Option, cond, length, map, nat_eq}
use Rattle.sky_base.specs.declared.object.TaskId.{TaskId}
use Rattle.ciel_journal.specs.Entries.{Entry}
use Rattle.ciel_journal.specs.Job.{Digest, Task}
use Rattle.ciel_journal.specs.Journals.{entered_in}
use Rattle.ciel_task_crew.specs.Crews.{told_at}
use Rattle.ciel_log_law.specs.RunDriveTold.{ToldOf}
use Rattle.ciel_run_onward.specs.Open.{Begun, begun_of, open_in}
use Rattle.ciel_task_order.specs.declared.order.Order.{Order}

-- of these Starts the tasks of those at a worker, in order
abbrev pub tasks_at : ℕ → List Begun → List (Task Digest)
tasks_at w [] = []
tasks_at w (o ∷ os) = cond (nat_eq w o.1) (o.2 ∷ tasks_at w os) (tasks_at w os)

-- each worker's list grew by the tasks of these Starts at it
abbrev pub ToldOpen : List Begun → (before after : List (Option (List TaskId))) → Type 0
ToldOpen os before after =
    (length after ≡ length before) × ((w : ℕ) → w < length before → ToldOf (told_at before w) (tasks_at w os) (told_at after w))

-- at each worker the Starts that are open behind these entries are those of these orders
abbrev pub LeavesOpen : List Entry → List Order → Type 0
LeavesOpen replayed orders = (w : ℕ) → tasks_at w (map begun_of orders) ≡ tasks_at w (open_in replayed)

-- of a journal that begins with the entries that were replayed: it grew by the tasks of the Starts at it that those entries leave open, and
-- then by those of the Starts since
abbrev pub ToldSince : (replayed J : List Entry) → (before after : List (Option (List TaskId))) → Type 0
ToldSince replayed J before after =
    (more : List Entry) × (J ≡ replayed ++ more) × (length after ≡ length before)
    × ((w : ℕ) → w < length before → ToldOf (told_at before w) (tasks_at w (open_in replayed) ++ entered_in w more) (told_at after w))
