use Rattle.sky_base.specs.Name.{digested, name}
use Rattle.sky_base_law.specs.NamesLaws.{no_name}
use Rattle.ciel_journal_job.proofs.KnownLaw.{real_knows}
use Rattle.ciel_journal_job.proofs.RealLaw.{real_laws}
use Rattle.ciel_journal_job.proofs.Filled.{real_exact}
use Rattle.ciel_master_law.proofs.Binds.{all_bind}
use Rattle.ciel_master_law.proofs.DescriptionsTold.{tells}
use Rattle.ciel_master_law.proofs.setting.real_job_is_a_setting.Goals as goal

pub returns : goal.returns
returns g c =
    record {
      real = λ digest job around mark frozen at block object state plain reads all. record {
        laws = real_laws job around (name no_name (digested digest)) mark frozen;
        knows = real_knows job around (name no_name (digested digest)) mark frozen plain;
        exact = real_exact (digested digest) job around mark frozen;
        tells = tells digest job around mark frozen at block object state reads (all_bind job.script.funs all);
      };
    }
