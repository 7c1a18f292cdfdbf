-- Where no dictionary or no list of arguments stands behind the name, no call does.
use Rattle.ciel_name.proofs.DecodeSteps.{refuses_more}
use Rattle.ciel_name.proofs.DescSteps.{anonymous_args, anonymous_caught}
use Rattle.ciel_name.proofs.read_object.read_anonymous_call.Goals as goal

pub returns-in-Err-read_caught-clause-refused : goal.returns-in-Err-read_caught-clause-refused
returns-in-Err-read_caught-clause-refused c =
    refuses_more c.in-Err-read_caught.refusal (anonymous_caught c.args.reader.now c.in-Ok.fun c.read_text.new.reader c.in-Ok.ensures.text)
    c.in-Err-read_caught.ensures.refused

pub returns-in-Err-read_args-clause-refused : goal.returns-in-Err-read_args-clause-refused
returns-in-Err-read_args-clause-refused c =
    refuses_more c.in-Err-read_args.refusal (anonymous_args c.args.reader.now c.in-Ok.fun c.read_text.new.reader c.in-Ok-read_caught.caught
    c.read_caught.new.reader c.in-Ok.ensures.text c.in-Ok-read_caught.ensures.caught) c.in-Err-read_args.ensures.refused
