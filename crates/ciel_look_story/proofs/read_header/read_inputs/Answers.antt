-- Where one input less stands in front than the count says, no such inputs do.
use Rattle.std.proofs.Common.{arith, map}
use Rattle.ciel_name.proofs.DecodeSteps.{refuses_more}
use Rattle.sky_frozen_bytes.proofs.Codes.{list_none, no_items}
use Rattle.ciel_look_told.specs.Head.{IsInput, input_bytes}
use Rattle.ciel_look_told.specs.View.{input_view}
use Rattle.ciel_look_story.proofs.Heads.{inputs_free}
use Rattle.ciel_look_story.proofs.read_header.read_inputs.Goals as goal

pub returns-in-Err-clause-refused : goal.returns-in-Err-clause-refused
returns-in-Err-clause-refused c =
    let l = c.loop-one in
    refuses_more c.in-Err.refusal (λ none. no_items input_bytes IsInput c.args.reader.now c.in-Some.count c.number.new.self
    c.in-Some.ensures (omega arith) (list_none input_bytes IsInput inputs_free l._one c.in-Some.count c.number.new.self
    (map input_view l.inputs.items) l.reader l.invariant (omega arith) none)) c.in-Err.ensures.refused
