-- What gates are told in a run: the tasks of the journal's Starts at their workers.
use Rattle.std.specs.Prelude.{◌≡◌, ℕ, ◌<◌, List, ◌++◌, length, map, Option, Some, None}
use Rattle.sky_base.specs.declared.object.TaskId.{TaskId}
use Rattle.ciel_master_board.specs.Board.{task_key}
use Rattle.ciel_task_crew.specs.Crews.{told_at}
use Rattle.ciel_journal.specs.Entries.{Entry}
use Rattle.ciel_journal.specs.Job.{Digest, Task}
use Rattle.ciel_journal.specs.Journals.{entered_in}

-- the list of tasks, where it is still told, grew by these, in order
abbrev pub ToldOf : Option (List TaskId) → List (Task Digest) → Option (List TaskId) → Type 0
ToldOf before tasks None = Unit {0}
ToldOf before tasks (Some after) =
    (was : List TaskId) × (before ≡ Some was) × (more : List TaskId) × (after ≡ was ++ more) × (map task_key more ≡ tasks)

-- each worker's list grew by the tasks of these entries' Starts at it
abbrev pub ToldBy : List Entry → (before after : List (Option (List TaskId))) → Type 0
ToldBy es before after =
    (length after ≡ length before) × ((w : ℕ) → w < length before → ToldOf (told_at before w) (entered_in w es) (told_at after w))

-- so it did by what the journal grew by
abbrev pub ToldOn : (old new : List Entry) → (before after : List (Option (List TaskId))) → Type 0
ToldOn old new before after = (more : List Entry) × (new ≡ old ++ more) × ToldBy more before after
