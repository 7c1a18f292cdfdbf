-- The texts of names, of tasks and of saved stacks.
use Rattle.std.specs.Prelude.{ℕ, List, ◌∷◌, ◌++◌, codes, decimal}
use Rattle.hex.specs.Hex.{encode_lower}
use Rattle.sky_base.specs.declared.object.TaskId.{TaskId}

abbrev pub task_text : TaskId → List ℕ
task_text TaskId.Show = codes "show"
task_text (TaskId.Of n) = encode_lower n

-- the task, `#`, the number of the wait
abbrev pub cont_text : TaskId → ℕ → List ℕ
cont_text task wait = task_text task ++ (35 ∷ decimal wait)
