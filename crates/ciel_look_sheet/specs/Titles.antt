-- The titles of boxes.
use Rattle.std.specs.Prelude.{ℕ, List, ◌++◌, codes, Option, Some, None}
use Rattle.hex.specs.Hex.{encode_lower}
use Rattle.sky_base.specs.Val.{Desc}
use Rattle.sky_base.specs.declared.object.TaskId.{TaskId}
use Rattle.ciel_look_words.specs.Words.{words}
use Rattle.ciel_look_tasks.specs.Known.{Named}
use Rattle.ciel_look_tasks.specs.Seen.{Row}

-- the whole name of a task
abbrev pub whole_name : TaskId → List ℕ
whole_name TaskId.Show = codes "result"
whole_name (TaskId.Of n) = encode_lower n

-- the whole name of a description behind its words
abbrev pub named_title : Named → List ℕ
named_title k = words k.1 ++ (codes ", " ++ encode_lower k.0)

-- the whole name of a task, behind the words of its description where that is known
abbrev pub task_title : Option (Desc (List ℕ)) → TaskId → List ℕ
task_title None t = whole_name t
task_title (Some d) t = words d ++ (codes ", " ++ whole_name t)

abbrev pub row_title : Row → List ℕ
row_title r = task_title r.desc r.task
