use Rattle.std.proofs.Common.{arith}
use Rattle.ciel_name.proofs.DecodeSteps.{refuses_more}
use Rattle.sky_base.specs.Name.{bytes}
use Rattle.ciel_name.specs.Spelled.{IsData}
use Rattle.sky_state.specs.StandView.{stack_view}
use Rattle.sky_frozen_bytes.proofs.Codes.{list_none, no_items}
use Rattle.sky_frozen_bytes.proofs.Parts.{data_free}
use Rattle.sky_frozen_bytes.proofs.read.read_values.Goals as goal

pub returns-in-Err-clause-refused : goal.returns-in-Err-clause-refused
returns-in-Err-clause-refused c =
    let l = c.loop-value in
    refuses_more c.in-Err.refusal (λ none. no_items bytes IsData c.args.reader.now c.in-Some.count c.number.new.self c.in-Some.ensures
    (omega arith) (list_none bytes IsData data_free l._value c.in-Some.count c.number.new.self (stack_view l.values.items) l.reader
    l.invariant (omega arith) none)) c.in-Err.ensures.refused
