-- The bars of lanes and the arrows of copies, by their titles.
use Rattle.std.specs.Prelude.{ℕ, zero, suc, List, [], ◌∷◌, ◌++◌, codes, cond, decimal, flat_map, map, slice_get, Option, Some, None}
use Rattle.hex.specs.Hex.{encode_lower}
use Rattle.sky_base.specs.declared.object.TaskId.{TaskId}
use Rattle.ciel_look_shown.specs.Plain.{shown}
use Rattle.ciel_look_told.specs.Told as told
use Rattle.ciel_look_told.specs.Told.{Outcome}
use Rattle.ciel_look_tasks.specs.SceneView.{one_of}
use Rattle.ciel_look_tasks.specs.Seen as seen
use Rattle.ciel_look_tasks.specs.Seen.{Close, Order, Row, Seen}
use Rattle.ciel_look_tasks.specs.Tasks.{same_task}
use Rattle.ciel_look_tasks.specs.declared.scene.Copied.{Copied}
use Rattle.ciel_look_tasks.specs.declared.scene.Run.{Run}
use Rattle.ciel_look_tasks.specs.declared.scene.Scene.{Scene}
use Rattle.ciel_look_sheet.specs.Titles.{row_title}

-- the wait from which it goes on, if there is one
abbrev pub from_words : ℕ → List ℕ
from_words zero = []
from_words (suc n) = codes " from wait " ++ decimal (suc n)

abbrev pub outcome_words : Outcome → List ℕ
outcome_words (told.made weights) = codes ", done"
outcome_words (told.saved j weight) = codes ", waits"
outcome_words (told.answered weight) = codes ", shows the answer"
outcome_words (told.failed fault) = codes ", shows a fault"
outcome_words (told.missing name loss) = codes ", missed something"

abbrev pub close_words : Close → List ℕ
close_words seen.out = codes ", still out"
close_words seen.lost = codes ", lost with its worker"
close_words (seen.told outcome waits) = outcome_words outcome

-- an order's number, worker and end
abbrev pub order_words : Order → List ℕ
order_words o =
    cond o.again (codes ", again start ") (codes ", start ")
    ++ (decimal o.start.0 ++ ((codes " at worker " ++ decimal o.start.1.0) ++ (from_words o.start.1.1.0 ++ close_words o.close)))

-- the bar of an order of a task: the task's title, and the order's words
abbrev pub bar_title : Order → Row → List ℕ
bar_title o r = shown (row_title r ++ order_words o)

-- the first row of a task, if there is one
abbrev pub row_of : TaskId → List Row → Option Row
row_of t [] = None
row_of t (r ∷ rs) = cond (same_task t r.task) (Some r) (row_of t rs)

-- the bar of an order, where its task has a row
abbrev pub bar_titles : List Row → Order → List (List ℕ)
bar_titles rows o = map (bar_title o) (one_of (row_of o.start.1.1.1 rows))

-- those of all orders
abbrev pub bars : Seen → List (List ℕ)
bars s = flat_map (bar_titles s.rows) s.orders

-- ---- arrows

abbrev pub copy_title : Copied → List ℕ
copy_title c = shown (codes "copy of " ++ encode_lower c.name)

-- that of a copy, where both orders are there
abbrev pub if_both : Option Run → Option Run → List ℕ → List (List ℕ)
if_both None to title = []
if_both (Some from) None title = []
if_both (Some from) (Some to) title = title ∷ []

abbrev pub order_at : Scene → Option ℕ → Option Run
order_at s None = None
order_at s (Some place) = slice_get s.runs.items place

abbrev pub copy_titles : Scene → Copied → List (List ℕ)
copy_titles s c = if_both (order_at s c.from) (slice_get s.runs.items c.run) (copy_title c)

abbrev pub arrows : Scene → List (List ℕ)
arrows s = flat_map (copy_titles s) s.copies.items
