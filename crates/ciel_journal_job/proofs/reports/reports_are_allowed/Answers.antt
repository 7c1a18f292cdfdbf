use Rattle.ciel_journal_job.proofs.ReportLemmas.{allowed, said}
use Rattle.ciel_journal_job.proofs.reports.reports_are_allowed.Goals as goal

pub returns : goal.returns
returns g c =
    record {
      allowed = λ job inner lower named laws knows exact p h o r i none rows learns. let t =
          allowed job laws inner knows lower named exact p h i.lawful o r i.is_out rows learns i.says none in
          record { event = t.0; report = t.1; allowed = t.2; apart = t.3; book = t.4 };
      said = λ job inner lower p v e r a q none. said job inner lower p v e r a q none;
    }
