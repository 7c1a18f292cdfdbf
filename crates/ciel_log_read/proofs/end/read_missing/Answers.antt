-- Where no number of a loss stands behind the name, no such end does.
use Rattle.ciel_log_read.proofs.Ends.{missing_loss}
use Rattle.ciel_log_read.proofs.end.read_missing.Goals as goal

pub returns-in_default-read_number-clause-refused : goal.returns-in_default-read_number-clause-refused
returns-in_default-read_number-clause-refused c =
    missing_loss c.args.reader.now c.in-Some.name c.read_name.new.reader c.in-Some.ensures c.in_default-read_number.ensures
