-- The reports of a run that ended an order: the objects that it took along, and those that it made.
use Rattle.std.specs.Prelude.{ℕ, ◌-◌, zero, suc, List, [], ◌∷◌, ◌++◌, Bool, false, ◌&&◌, cond, flat_map, length, nat_eq, slice_get, Option, Some, None}
use Rattle.std.specs.List.{cons_option}
use Rattle.std.specs.Option.{option_map, option_or}
use Rattle.sky_base.specs.Val.{Desc, call, input, known, out}
use Rattle.sky_base.specs.declared.object.TaskId.{TaskId}
use Rattle.ciel_look_told.specs.Head.{Head, short}
use Rattle.ciel_look_told.specs.Told as told
use Rattle.ciel_look_told.specs.Told.{Outcome, Told}
use Rattle.ciel_look_words.specs.Named.{name_of}
use Rattle.ciel_look_tasks.specs.Happened.{closing}
use Rattle.ciel_look_tasks.specs.Learned.{descs, maker}
use Rattle.ciel_look_tasks.specs.Orders.{Ending, orders}
use Rattle.ciel_look_tasks.specs.Tasks.{Start, same_task, starts}

-- ---- the outputs of a task

-- a description is the output of this index of the task of this name
abbrev pub is_output : Bool → (task : List ℕ) → (index : ℕ) → Desc (List ℕ) → Bool
is_output s n i (call f c vs) = false
is_output s n i (out x v m j) = same_task (TaskId.Of n) (maker s (out x v m j)) && nat_eq j i
is_output s n i (input k) = false
is_output s n i (known m) = false

-- its name, by the last of these descriptions that is one
abbrev pub output_name : Bool → List (Desc (List ℕ)) → (task : List ℕ) → (index : ℕ) → Option (List ℕ)
output_name s [] n i = None
output_name s (d ∷ ds) n i = option_or (output_name s ds n i) (cond (is_output s n i d) (Some (name_of s d)) None)

-- the names of so many outputs from this one on, of those that are among the descriptions
abbrev pub outputs : Bool → List (Desc (List ℕ)) → (task : List ℕ) → (index count : ℕ) → List (List ℕ)
outputs s ds n i zero = []
outputs s ds n i (suc k) = cons_option (output_name s ds n i) (outputs s ds n (suc i) k)

-- the names of so many objects of a task: the task's own is that of the first one
abbrev pub objects_of : Bool → List (Desc (List ℕ)) → TaskId → ℕ → List (List ℕ)
objects_of s ds TaskId.Show k = []
objects_of s ds (TaskId.Of n) k = n ∷ outputs s ds n 1 (k - 1)

-- the objects that an order made that ended so
abbrev pub objects_made : Bool → List (Desc (List ℕ)) → TaskId → Outcome → List (List ℕ)
objects_made s ds t (told.made weights) = objects_of s ds t (length weights)
objects_made s ds t (told.saved j weight) = []
objects_made s ds t (told.answered weight) = []
objects_made s ds t (told.failed fault) = []
objects_made s ds t (told.missing name loss) = []

-- ---- the reports

-- the place and the worker of the order that it ended, the objects that were copied, and those that were made, by what was described up to there
pub record Report : Type 0 where
  pub order : ℕ
  pub worker : ℕ
  pub copied : List (List ℕ)
  pub made : List (List ℕ)

abbrev pub report_of : Bool → List (Desc (List ℕ)) → (copied : List (List ℕ)) → Outcome → (place : ℕ) → Start × Ending → Report
report_of s ds copied how p o =
    record {
      order = p;
      worker = o.0.1.0;
      copied = copied;
      made = objects_made s ds o.0.1.1.1 how;
    }

abbrev pub report_at : Bool → List (Desc (List ℕ)) → List (Start × Ending) → (copied : List (List ℕ)) → Outcome → (place : Option ℕ) → List Report
report_at s ds os copied how None = []
report_at s ds os copied how (Some p) = cons_option (option_map (report_of s ds copied how p) (slice_get os p)) []

-- by these descriptions, behind these orders
abbrev pub report_by : Bool → List (Desc (List ℕ)) → List (Start × Ending) → Told → List Report
report_by s ds os (told.started number worker from task) = []
report_by s ds os (told.ended number spawned copied how) = report_at s ds os copied how (closing number os)
report_by s ds os (told.lost worker after) = []
report_by s ds os (told.late number) = []

-- behind what was told before
abbrev pub reports_behind : Head → List Told → List Told → List Report
reports_behind h before [] = []
reports_behind h before (t ∷ ts) = report_by (short h) (descs h (before ++ t ∷ [])) (orders before) t ++ reports_behind h (before ++ t ∷ []) ts

abbrev pub reports : Head → List Told → List Report
reports h ts = reports_behind h [] ts

-- ---- of each order

abbrev pub report_copied : Report → List (List ℕ)
report_copied r = r.copied

abbrev pub report_made : Report → List (List ℕ)
report_made r = r.made

module _ (said : Report → List (List ℕ)) where
  -- what the reports say of the order at a place
  abbrev pub said_by : (place : ℕ) → Report → List (List ℕ)
  said_by p r = cond (nat_eq p r.order) (said r) []

  -- of each order, the first one at this place
  abbrev pub said_of : List Report → (at : ℕ) → List Start → List (List (List ℕ))
  said_of rs at [] = []
  said_of rs at (s ∷ ss) = flat_map (said_by at) rs ∷ said_of rs (suc at) ss

-- of each order, the objects that it took along: those that its report says were copied
abbrev pub took : Head → List Told → List (List (List ℕ))
took h ts = said_of report_copied (reports h ts) 0 (starts ts)

-- of each order, the objects that it made
abbrev pub made : Head → List Told → List (List (List ℕ))
made h ts = said_of report_made (reports h ts) 0 (starts ts)
