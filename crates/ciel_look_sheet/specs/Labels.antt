-- Colours and labels of tasks.
use Rattle.std.specs.Prelude.{ℕ, ◌-◌, ◌/◌, List, [], codes, max, Option, Some, None}
use Rattle.sky_base.specs.Val.{Desc, call, out, input, known}
use Rattle.sky_base.specs.declared.object.TaskId.{TaskId}
use Rattle.ciel_look_words.specs.Words.{head, words}
use Rattle.ciel_look_tasks.specs.Known.{Named}
use Rattle.ciel_look_sheet.specs.Titles.{whole_name}

-- a call, what an executor makes, an input
abbrev pub desc_colour : Desc (List ℕ) → List ℕ
desc_colour (call f c vs) = codes "#9ecae1"
desc_colour (out x v n i) = codes "#a1d99b"
desc_colour (input k) = codes "#ffffff"
desc_colour (known name) = []

-- by its description, where that is known; else the root task, and any other
abbrev pub task_colour : Option Named → TaskId → List ℕ
task_colour (Some k) t = desc_colour k.1
task_colour None TaskId.Show = codes "#fdd0a2"
task_colour None (TaskId.Of n) = codes "#d9d9d9"

-- the words of its description, where that is known, else its name
abbrev pub task_words : Option Named → TaskId → List ℕ
task_words (Some k) t = words k.1
task_words None t = whole_name t

-- the name of its function or executor alone
abbrev pub task_head : Option Named → TaskId → List ℕ
task_head (Some k) t = head k.1
task_head None TaskId.Show = codes "result"
task_head None (TaskId.Of n) = codes "unknown"

-- how many characters a box of this width has room for
abbrev pub room : ℕ → ℕ
room width = max ((width - 4) / 6) 2
