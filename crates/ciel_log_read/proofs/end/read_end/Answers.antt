-- Where no end of this kind stands behind the first byte, no end does.
use Rattle.ciel_name.proofs.DecodeSteps.{refuses_more}
use Rattle.ciel_log_read.proofs.Ends.{end_none}
use Rattle.ciel_log_read.proofs.end.read_end.Goals as goal

pub returns-in-Err-clause-refused : goal.returns-in-Err-clause-refused
returns-in-Err-clause-refused c =
    refuses_more c.in-Err.refusal (end_none c.args.reader.now c.byte.new.self c.in-Some.kind c.in-Some.ensures) c.in-Err.ensures.refused
