-- Where no list of arguments stands behind the name, no call does.
use Rattle.ciel_name.proofs.DecodeSteps.{refuses_more}
use Rattle.ciel_name.proofs.DescSteps.{named_args}
use Rattle.ciel_name.proofs.read_object.read_named_call.Goals as goal

pub returns-in-Err-read_args-clause-refused : goal.returns-in-Err-read_args-clause-refused
returns-in-Err-read_args-clause-refused c =
    refuses_more c.in-Err-read_args.refusal (named_args c.args.reader.now c.in-Ok.fun c.read_text.new.reader c.in-Ok.ensures.text)
    c.in-Err-read_args.ensures.refused
