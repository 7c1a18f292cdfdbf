use Rattle.std.proofs.Common.{arith}
use Rattle.ciel_name.proofs.DecodeSteps.{refuses_more}
use Rattle.sky_frozen_bytes.specs.Bytes.{todo_bytes}
use Rattle.sky_frozen_bytes.specs.Spelled.{TodoSpelled}
use Rattle.sky_state.specs.StandView.{todos_view}
use Rattle.sky_frozen_bytes.proofs.Codes.{list_none, no_items}
use Rattle.sky_frozen_bytes.proofs.Parts.{todos_free}
use Rattle.sky_frozen_bytes.proofs.read.read_todos.Goals as goal

pub returns-in-Err-clause-refused : goal.returns-in-Err-clause-refused
returns-in-Err-clause-refused c =
    let l = c.loop-todo in
    refuses_more c.in-Err.refusal (λ none. no_items todo_bytes TodoSpelled c.args.reader.now c.in-Some.count c.number.new.self c.in-Some.ensures
    (omega arith) (list_none todo_bytes TodoSpelled todos_free l._todo c.in-Some.count c.number.new.self (todos_view l.todos.items) l.reader
    l.invariant (omega arith) none)) c.in-Err.ensures.refused
