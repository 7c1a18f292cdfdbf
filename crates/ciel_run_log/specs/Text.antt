-- The text of a journal: one line for each entry. Numbers are decimal, names and marks lower-case hexadecimal digits.
use Rattle.std.specs.Prelude.{ℕ, List, [], ◌∷◌, codes, decimal, flat_map}
use Rattle.std.specs.List.{concat}
use Rattle.hex.specs.Hex.{encode_lower}
use Rattle.sky_base.specs.declared.object.TaskId.{TaskId}
use Rattle.ciel_master.specs.declared.entry.Entry.{Entry}

abbrev pub task_text : TaskId → List ℕ
task_text TaskId.Show = codes "show"
task_text (TaskId.Of name) = encode_lower name

-- `start NUMBER WORKER TASK FROM`
abbrev pub start_text : (number worker : ℕ) → TaskId → (from : ℕ) → List ℕ
start_text number worker task from =
    concat (codes "start " ∷ decimal number ∷ codes " " ∷ decimal worker ∷ codes " " ∷ task_text task ∷ codes " " ∷ decimal from ∷ codes "\n" ∷ [])

-- ` NAME=MARK` for each output that was made
abbrev pub made_text : List ℕ × List ℕ → List ℕ
made_text made = concat (codes " " ∷ encode_lower made.0 ∷ codes "=" ∷ encode_lower made.1 ∷ [])

abbrev pub made_texts : List (List ℕ × List ℕ) → List ℕ
made_texts made = flat_map made_text made

-- ` +NAME` for each copy
abbrev pub copied_text : List ℕ → List ℕ
copied_text name = concat (codes " +" ∷ encode_lower name ∷ [])

abbrev pub copied_texts : List (List ℕ) → List ℕ
copied_texts names = flat_map copied_text names

-- `done NUMBER`, then what was made, then what was copied
abbrev pub done_text : (number : ℕ) → List (List ℕ × List ℕ) → List (List ℕ) → List ℕ
done_text number made copied = concat (codes "done " ∷ decimal number ∷ made_texts made ∷ copied_texts copied ∷ codes "\n" ∷ [])

-- `saved NUMBER J MARK`
abbrev pub saved_text : (number wait : ℕ) → List ℕ → List ℕ
saved_text number wait mark =
    concat (codes "saved " ∷ decimal number ∷ codes " " ∷ decimal wait ∷ codes " " ∷ encode_lower mark ∷ codes "\n" ∷ [])

-- `missed NUMBER NAME LOST`
abbrev pub missed_text : (number : ℕ) → List ℕ → (lost : ℕ) → List ℕ
missed_text number name lost =
    concat (codes "missed " ∷ decimal number ∷ codes " " ∷ encode_lower name ∷ codes " " ∷ decimal lost ∷ codes "\n" ∷ [])

-- `lost WORKER AFTER`
abbrev pub lost_text : (worker after : ℕ) → List ℕ
lost_text worker after = concat (codes "lost " ∷ decimal worker ∷ codes " " ∷ decimal after ∷ codes "\n" ∷ [])

abbrev pub entry_text : Entry → List ℕ
entry_text (Entry.Start number worker task from) = start_text number worker task from
entry_text (Entry.Done number made copied) = done_text number made.items copied
entry_text (Entry.Saved number wait mark) = saved_text number wait mark
entry_text (Entry.Missed number name lost) = missed_text number name lost
entry_text (Entry.Lost worker after) = lost_text worker after

abbrev pub journal_text : List Entry → List ℕ
journal_text journal = flat_map entry_text journal
