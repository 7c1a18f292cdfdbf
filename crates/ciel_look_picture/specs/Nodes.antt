-- What a picture of a run shows.
use Rattle.std.specs.Prelude.{◌≡◌, ◌≤◌, ℕ, List, [], ◌∷◌, ◌++◌, Bool, true, false, cond, flat_map, length, map}
use Rattle.sky_base.specs.Val.{Desc, call, input, known, out}
use Rattle.ciel_look_shown.specs.Plain.{shown}
use Rattle.ciel_look_tasks.specs.Known.{Named}
use Rattle.ciel_look_tasks.specs.Seen.{Row, Seen}
use Rattle.ciel_look_sheet.specs.Drawn.{Draws}
use Rattle.ciel_look_sheet.specs.Picture.{Holds}
use Rattle.ciel_look_sheet.specs.Titles.{named_title, row_title}
use Rattle.ciel_look_lanes.specs.Bars.{bars}

abbrev pub is_input : Desc (List ℕ) → Bool
is_input (call f caught args) = false
is_input (out executor args count index) = false
is_input (input key) = true
is_input (known name) = false

-- the node of an input, by its title
abbrev pub input_title : Named → List (List ℕ)
input_title k = cond (is_input k.1) (shown (named_title k) ∷ []) []

-- the node of a task
abbrev pub node_title : Row → List ℕ
node_title r = shown (row_title r)

-- a node for each input and each task
abbrev pub nodes : Seen → List (List ℕ)
nodes s = flat_map input_title s.known ++ map node_title s.rows

-- where there are few tasks the boxes are a bar for each order and a node for each input and task, in order; and there is a cross for each loss
pub record Shows (s : Seen) (text : List ℕ) : Type 0 where
  pub marks : List ℕ
  pub holds : Holds marks text
  pub few : length s.rows ≤ 300 → (arrows : List (List ℕ)) × Draws (bars s ++ nodes s) arrows (length s.losses) [] marks
  pub many : (boxes : List (List ℕ)) × (arrows : List (List ℕ)) × Draws boxes arrows (length s.losses) [] marks
