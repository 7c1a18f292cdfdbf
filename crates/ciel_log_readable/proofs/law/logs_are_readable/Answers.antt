use Rattle.ciel_log_readable.proofs.Read.{all_readable, begins}
use Rattle.ciel_log_readable.proofs.law.logs_are_readable.Goals as goal

pub returns : goal.returns
returns c = record {
  read = λ digest job gives p header journal all w l fit few. all_readable digest job gives p w header journal all l fit few;
  begun = λ digest job gives p header bytes w b. begins digest job gives p w header bytes b;
}
