-- The job of the shop is the one that was read.
use Rattle.std.proofs.Common.{subst, sym}
use Rattle.sky_base.specs.JobView.{job_view}
use Rattle.ciel_run_job.specs.Onward.{IsRead}
use Rattle.ciel_flow_tests.proofs.run.run.Goals as goal

pub counted-requires-clause-read : goal.counted-requires-clause-read
counted-requires-clause-read g c κs within =
    subst (λ j. IsRead (job_view j).script) (sym c.in_ok-begun.ensures.shop.job_is) c.in_ok-job.ensures.read
