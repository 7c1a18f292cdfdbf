use Rattle.ciel_log_fits.proofs.ReadReports as reports
use Rattle.ciel_log_fits.proofs.law.read_reports_fit.Goals as goal

pub returns : goal.returns
returns c = record { fit = reports.read_reports_fit }
