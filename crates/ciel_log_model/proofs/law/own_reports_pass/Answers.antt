use Rattle.ciel_log_model.proofs.Own as own
use Rattle.ciel_log_model.proofs.law.own_reports_pass.Goals as goal

pub returns : goal.returns
returns c = record { pass = own.own_reports_pass }
