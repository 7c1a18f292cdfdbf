-- What an order brings along, by what the code's data stand for.
use Rattle.std.specs.Prelude.{ℕ, List, [], ◌∷◌, Option, None}
use Rattle.std.specs.Option.{option_map_or}
use Rattle.sky_base.specs.declared.object.TaskId.{TaskId}
use Rattle.ciel_master_board.specs.Board as b
use Rattle.ciel_journal.specs.Job.{Digest}
use Rattle.ciel_table.specs.Seen.{TableSeen, last_wait, row_named}
use Rattle.ciel_table.specs.declared.row.Row.{Row}
use Rattle.ciel_task_order.specs.Views.{P}

-- the worker of a place
abbrev pub worker_of : P → ℕ
worker_of p = p.worker

-- the row of a task's name; the root task has none
abbrev pub row_for : TaskId → TableSeen P → Option (Row P)
row_for TaskId.Show t = None
row_for (TaskId.Of n) t = row_named n t

-- what a task holds at its start, by that row
abbrev pub first_held_by : Digest → TaskId → Option (Row P) → List Digest
first_held_by main TaskId.Show row = main ∷ []
first_held_by main (TaskId.Of n) row = option_map_or (λ (r : Row P). b.start_refs r.desc) row []

-- the order of a task at a worker, where these stand
abbrev pub order_at : List (List ℕ) → Digest → TableSeen P → ℕ → TaskId → ℕ → b.Order P
order_at keys main t number task w =
    record {
      out = record { number = number; worker = w; task = task; from = b.wait_number (last_wait task t) };
      main = main;
      desc = b.task_desc main t task;
      stack = b.stack_at (last_wait task t);
      inputs = b.brought worker_of keys w t (b.held main t task);
    }
