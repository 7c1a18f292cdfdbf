-- Where its key or its mark is lacking, no input stands there.
use Rattle.ciel_name.proofs.DecodeSteps.{refuses_more}
use Rattle.ciel_look_story.proofs.Heads.{input_key, input_mark, input_read}
use Rattle.ciel_look_story.proofs.read_header.read_input.Goals as goal

pub returns-in-Err-clause-refused : goal.returns-in-Err-clause-refused
returns-in-Err-clause-refused c = refuses_more c.in-Err.refusal (input_key c.args.reader.now) c.in-Err.ensures.refused

pub returns-in_default-clause-refused : goal.returns-in_default-clause-refused
returns-in_default-clause-refused c =
    input_mark c.args.reader.now c.in-Ok.key c.read_text.new.reader c.in-Ok.ensures.text c.in_default.ensures

pub returns-clause-input : goal.returns-clause-input
returns-clause-input c =
    input_read c.args.reader.now c.in-Ok.key c.read_text.new.reader c.in-Some.mark c.read_mark.new.reader c.in-Ok.ensures.text c.in-Some.ensures
