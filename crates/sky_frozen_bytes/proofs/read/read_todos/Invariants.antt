-- What was read so far stands in front.
use Rattle.sky_state.specs.StandView.{todos_view}
use Rattle.sky_frozen_bytes.specs.Bytes.{todo_bytes}
use Rattle.sky_frozen_bytes.specs.Codes.{ListRead}
use Rattle.sky_frozen_bytes.specs.Spelled.{TodoSpelled}
use Rattle.sky_frozen_bytes.proofs.read.read_todos.Given as goal

abbrev pub invariant-loop-todo : goal.invariant-loop-todo
invariant-loop-todo l = ListRead todo_bytes TodoSpelled l._todo l.initial.reader (todos_view l.todos.items) l.reader
