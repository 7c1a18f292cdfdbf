use Rattle.ciel_name.proofs.DecodeSteps.{refuses_more}
use Rattle.sky_state.specs.StandView.{stack_view}
use Rattle.sky_frozen_bytes.proofs.Parts.{no_lists_second}
use Rattle.sky_frozen_bytes.proofs.read.read_lists.Goals as goal

pub returns-in-Err-read_todos-clause-refused : goal.returns-in-Err-read_todos-clause-refused
returns-in-Err-read_todos-clause-refused c =
    refuses_more c.in-Err-read_todos.refusal (no_lists_second c.args.reader.now (stack_view c.in-Ok.stack.items) c.read_values.new.reader
    c.in-Ok.ensures.read) c.in-Err-read_todos.ensures.refused
