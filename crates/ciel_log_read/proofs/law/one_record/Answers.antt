use Rattle.ciel_log_read.proofs.Records.{one_record}
use Rattle.ciel_log_read.proofs.law.one_record.Goals as goal

pub returns : goal.returns
returns c = one_record
