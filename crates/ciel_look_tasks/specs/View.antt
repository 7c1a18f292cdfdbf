-- What the code's scenes stand for.
use Rattle.std.specs.Prelude.{ℕ, List, Bool, map, Option, Some, None}
use Rattle.sky_base.specs.declared.object.TaskId.{TaskId}
use Rattle.ciel_look_told.specs.View.{outcome_view}
use Rattle.ciel_look_tasks.specs.Orders.{Ending, ended, lost, out}
use Rattle.ciel_look_tasks.specs.Happened as what
use Rattle.ciel_look_tasks.specs.Happened.{Happened, began}
use Rattle.ciel_look_tasks.specs.Heads.{Heading}
use Rattle.ciel_look_tasks.specs.Rows.{Filed}
use Rattle.ciel_look_tasks.specs.Tasks.{Start}
use Rattle.ciel_look_tasks.specs.declared.scene.End.{End}
use Rattle.ciel_look_tasks.specs.declared.scene.Happening.{Happening}
use Rattle.ciel_look_tasks.specs.declared.scene.How.{How}
use Rattle.ciel_look_tasks.specs.declared.scene.Loss.{Loss}
use Rattle.ciel_look_tasks.specs.declared.scene.Run.{Run}
use Rattle.ciel_look_tasks.specs.declared.scene.Task.{Task}

-- the tasks
abbrev pub ids : List Task → List TaskId
ids ts = map (λ (t : Task). t.id) ts

-- the tasks, with the places of their orders
abbrev pub row_filed : Task → Filed
row_filed t = (t.id, t.runs.items)

abbrev pub rows : List Task → List Filed
rows ts = map row_filed ts

-- the tasks, with the places of their descriptions
abbrev pub heading_view : Task → Heading
heading_view t = (t.id, t.known)

abbrev pub headings : List Task → List Heading
headings ts = map heading_view ts

-- the starts
abbrev pub start_view : Run → Start
start_view r = (r.number, (r.worker, (r.from, r.id)))

abbrev pub starts_view : List Run → List Start
starts_view rs = map start_view rs

-- whether each began its task again
abbrev pub run_again : Run → Bool
run_again r = r.again

abbrev pub agains_view : List Run → List Bool
agains_view rs = map run_again rs

-- what happened
abbrev pub happening_view : Happening → Happened
happening_view (Happening.Begun place) = began place
happening_view (Happening.Ended place) = what.ended place
happening_view (Happening.Lost place) = what.lost place

abbrev pub happened_view : List Happening → List Happened
happened_view hs = map happening_view hs

-- the losses
abbrev pub loss_view : Loss → ℕ × ℕ
loss_view l = (l.worker, l.after)

abbrev pub losses_view : List Loss → List (ℕ × ℕ)
losses_view ls = map loss_view ls

-- the numbers of the orders
abbrev pub run_number : Run → ℕ
run_number r = r.number

abbrev pub numbers : List Run → List ℕ
numbers rs = map run_number rs

-- the orders, each with its end
abbrev pub how_ending : How → Ending
how_ending (How.Told outcome made) = ended (outcome_view outcome)
how_ending (How.Lost loss) = lost

abbrev pub ending_view : Option End → Ending
ending_view None = out
ending_view (Some end) = how_ending end.how

abbrev pub order_ends : Run → Start × Ending
order_ends r = (start_view r, ending_view r.end)

abbrev pub orders_view : List Run → List (Start × Ending)
orders_view rs = map order_ends rs
