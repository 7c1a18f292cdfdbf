-- What is left to write stands behind what was written.
use Rattle.std.proofs.Common.{◌≡◌, ◌++◌, flat_map, drop}
use Rattle.sky_frozen_bytes.specs.Bytes.{todo_bytes}
use Rattle.sky_state.specs.StandView.{todos_view}
use Rattle.sky_frozen_bytes.proofs.write.put_todos.Given as goal

abbrev pub invariant-loop-todo : goal.invariant-loop-todo
invariant-loop-todo l =
    l.initial.out ++ flat_map todo_bytes (todos_view l.todos) ≡ l.out ++ flat_map todo_bytes (todos_view (drop l.todo-index l.todos))
