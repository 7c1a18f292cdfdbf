-- What learning a description comes to.
use Rattle.std.specs.Prelude.{ℕ, List, [], ◌∷◌, ◌++◌, cond, length, Option, Some, None, Result, Ok, Err, nat_lt}
use Rattle.std.specs.Option.{option_map_or}
use Rattle.sky_base.specs.Name.{canon, digested}
use Rattle.sky_base.specs.ObjectView.{desc_view}
use Rattle.sky_base.specs.Val.{same_text}
use Rattle.sky_base.specs.declared.object.Named.{Named}
use Rattle.sky_base.specs.declared.object.TaskId.{TaskId}
use Rattle.ciel_name.specs.Names.{first_output}
use Rattle.ciel_table.specs.Seen.{TableSeen, find, row_named}
use Rattle.ciel_table.specs.declared.refusal.Learn.{Learn}
use Rattle.ciel_table.specs.declared.row.Row.{Row}

-- a name that is held, at this row
abbrev pub if_held : ℕ → List ℕ → List ℕ → Result ℕ Learn
if_held id kept given = cond (same_text kept given) (Ok id) (Err (Learn.Clash kept given))

-- a new name, where so many rows are held
abbrev pub if_new : ℕ → ℕ → Result ℕ Learn
if_new held limit = cond (nat_lt held limit) (Ok held) (Err (Learn.Full held))

module _ {P : Type 0} where
  -- the canonical bytes of the description that a name is held for
  abbrev pub kept_bytes : List ℕ → TableSeen P → List ℕ
  kept_bytes n t = option_map_or (λ (r : Row P). canon (desc_view r.desc)) (row_named n t) []

  abbrev pub learn_at : Option ℕ → Named → TableSeen P → Result ℕ Learn
  learn_at None d t = if_new (length t.rows) t.limit
  learn_at (Some id) d t = if_held id (kept_bytes d.name t) (canon (desc_view d.desc))

  -- the row of the description, or why it isn't learned
  abbrev pub learn_answer : Named → TableSeen P → Result ℕ Learn
  learn_answer d t = learn_at (find d.name t) d t

  -- no place, and the task by this digest: that of the call, or of the executor's first output
  abbrev pub new_row : (List ℕ → List ℕ) → Named → Row P
  new_row digest d =
      record { name = d.name; desc = d.desc; task = TaskId.Of (digested digest (first_output (desc_view d.desc))); places = [] }

  -- a new name has a row at the end
  abbrev pub rows_after : Option ℕ → (List ℕ → List ℕ) → Named → List (Row P) → List (Row P)
  rows_after None digest d rows = rows ++ new_row digest d ∷ []
  rows_after (Some id) digest d rows = rows

  -- the table after
  abbrev pub learned : (List ℕ → List ℕ) → Named → TableSeen P → TableSeen P
  learned digest d t = record t { rows = rows_after (find d.name t) digest d t.rows }

-- what a refusal says that isn't want of memory
abbrev pub Refuses : Learn → Type 0 → Type 0
Refuses (Learn.Clash kept given) R = R
Refuses (Learn.Full held) R = R
Refuses Learn.Memory R = Unit {0}
