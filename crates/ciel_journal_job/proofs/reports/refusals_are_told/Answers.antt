use Rattle.ciel_journal_job.proofs.ReportLemmas.{clash, overflow}
use Rattle.ciel_journal_job.proofs.reports.refusals_are_told.Goals as goal

pub returns : goal.returns
returns g c =
    record {
      clash = λ job inner lower named laws knows exact p h o r i rows kept given f k. let t =
          clash job laws inner knows lower named exact p h i.lawful o r i.is_out f.before f.after rows given f.split f.learned i.says kept
          k.there k.same k.other in record { first = t.0; second = t.1; is_kept = t.2; is_given = t.3; clashes = t.4 };
      overflow = λ job inner lower named laws knows exact p h o r i rows given f new. let t =
          overflow job laws inner knows lower named exact p h i.lawful o r i.is_out f.before f.after rows given f.split f.learned i.says new in
          record { next = t.0; is_given = t.1; overflows = t.2 };
    }
