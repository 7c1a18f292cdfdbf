use Rattle.ciel_log_read.proofs.Files.{cut_file, one_reading}
use Rattle.ciel_log_read.proofs.law.files_are_cut_to_records.Goals as goal

pub returns : goal.returns
returns c = record { one = one_reading; cut = cut_file }
