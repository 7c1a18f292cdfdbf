-- What is seen of a run.
use Rattle.std.specs.Prelude.{◌≡◌, ℕ, ◌-◌, List, Bool, Option, length, map, take}
use Rattle.std.specs.List.{filter}
use Rattle.sky_base.specs.Val.{Desc}
use Rattle.sky_base.specs.declared.object.TaskId.{TaskId}
use Rattle.ciel_look_told.specs.Head.{Head, short}
use Rattle.ciel_look_told.specs.Told.{Outcome, Told}
use Rattle.ciel_look_tasks.specs.Again.{agains}
use Rattle.ciel_look_tasks.specs.Cuts.{cuts}
use Rattle.ciel_look_tasks.specs.Happened as what
use Rattle.ciel_look_tasks.specs.Happened.{Happened}
use Rattle.ciel_look_tasks.specs.Known.{Named}
use Rattle.ciel_look_tasks.specs.Learned as names
use Rattle.ciel_look_tasks.specs.Objects.{AreTaken}
use Rattle.ciel_look_tasks.specs.Orders as by
use Rattle.ciel_look_tasks.specs.Orders.{Ending}
use Rattle.ciel_look_tasks.specs.Reports as said
use Rattle.ciel_look_tasks.specs.Stacks as stack
use Rattle.ciel_look_tasks.specs.Tasks as runs
use Rattle.ciel_look_tasks.specs.Tasks.{Start, same_task}

-- how an order ended: it is still out; it was lost with its worker; or as its report tells, where it waits for these names
pub data Close : Type 0 where
  out : Close
  lost : Close
  told : Outcome → (waits : List (List ℕ)) → Close

-- an order: its start, whether its task had been started from the same wait before, how it ended, and the objects that it took along and made
pub record Order : Type 0 where
  pub start : Start
  pub again : Bool
  pub close : Close
  pub took : List (List ℕ)
  pub made : List (List ℕ)

-- a task, the description that was known under its name when it was first started, its first eight orders, and how many others it had
pub record Row : Type 0 where
  pub task : TaskId
  pub desc : Option (Desc (List ℕ))
  pub orders : List Order
  pub others : ℕ

-- a loss: its worker and how many started tasks had been closed, the names of the objects that lay nowhere else, how many stacks lay there, and
-- of which tasks, and the numbers of the orders that were out there, and their starts
pub record Taken : Type 0 where
  pub loss : ℕ × ℕ
  pub objects : List (List ℕ)
  pub stacks : ℕ
  pub stacked : List TaskId
  pub cut : List ℕ
  pub cut_starts : List Start

-- a run: what is known under names, and the tasks that make it, its tasks, its orders, its losses, how many objects were copied, and what
-- happened, in order
pub record Seen : Type 0 where
  pub known : List Named
  pub makers : List (List ℕ × TaskId)
  pub rows : List Row
  pub orders : List Order
  pub losses : List Taken
  pub copies : ℕ
  pub happened : List Happened

abbrev pub row_task : Row → TaskId
row_task r = r.task

abbrev pub order_start : Order → Start
order_start o = o.start

abbrev pub order_again : Order → Bool
order_again o = o.again

abbrev pub ending_of : Close → Ending
ending_of out = by.out
ending_of lost = by.lost
ending_of (told outcome waits) = by.ended outcome

abbrev pub order_ended : Order → Start × Ending
order_ended o = (o.start, ending_of o.close)

abbrev pub order_took : Order → List (List ℕ)
order_took o = o.took

abbrev pub order_made : Order → List (List ℕ)
order_made o = o.made

abbrev pub taken_loss : Taken → ℕ × ℕ
taken_loss l = l.loss

abbrev pub taken_cut : Taken → List ℕ
taken_cut l = l.cut

abbrev pub taken_objects : Taken → List (List ℕ)
taken_objects l = l.objects

abbrev pub taken_stacked : Taken → List TaskId
taken_stacked l = l.stacked

abbrev pub taken_stacks : Taken → ℕ
taken_stacks l = l.stacks

-- the orders of a task
abbrev pub is_of : TaskId → Order → Bool
is_of t o = same_task t o.start.1.1.1

abbrev pub orders_of : TaskId → List Order → List Order
orders_of t os = filter (is_of t) os

-- the first eight of them, and how many others there are
abbrev pub first_orders : List Order → TaskId → List Order × ℕ
first_orders os t = (take 8 (orders_of t os), length (orders_of t os) - 8)

abbrev pub row_desc : Row → Option (Desc (List ℕ))
row_desc r = r.desc

abbrev pub row_orders : Row → List Order × ℕ
row_orders r = (r.orders, r.others)

-- what is seen is what was told, as far as it is said here: the tasks, each with what was known of it when it was first started and with its
-- orders, the starts, which of them began a task again, how each order ended, what it took along and what it made, the losses, each with the
-- orders that it cut and the stacks and the objects that it took, what is known, with the tasks that make it, and what happened, in order
pub record IsSeenOf (head : Head) (ts : List Told) (s : Seen) : Type 0 where
  pub tasks : map row_task s.rows ≡ runs.tasks ts
  pub descs : map row_desc s.rows ≡ map (names.desc_of head ts) (map row_task s.rows)
  pub rows : map row_orders s.rows ≡ map (first_orders s.orders) (map row_task s.rows)
  pub starts : map order_start s.orders ≡ runs.starts ts
  pub again : map order_again s.orders ≡ agains ts
  pub orders : map order_ended s.orders ≡ by.orders ts
  pub took : map order_took s.orders ≡ said.took head ts
  pub made : map order_made s.orders ≡ said.made head ts
  pub losses : map taken_loss s.losses ≡ runs.losses ts
  pub cuts : map taken_cut s.losses ≡ cuts ts
  pub stacked : map taken_stacked s.losses ≡ stack.stacked ts
  pub stacks : map taken_stacks s.losses ≡ map length (stack.stacked ts)
  pub objects : AreTaken head ts (map taken_objects s.losses)
  pub known : s.known ≡ names.known head ts
  pub makers : s.makers ≡ map (names.made_by (short head)) s.known
  pub happened : s.happened ≡ what.happened ts
