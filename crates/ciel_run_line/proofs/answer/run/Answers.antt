-- The names are those that the line asks for.
use Rattle.std.proofs.Common.{map, subst, sym}
use Rattle.sky_base.specs.JobView.{job_view}
use Rattle.ciel_run_logged.specs.Ended.{EndsSo}
use Rattle.ciel_master.specs.Seen.{plan_view}
use Rattle.ciel_master.specs.Views.{entry_view}
use Rattle.ciel_words.specs.declared.words.NameKind.{NameKind}
use Rattle.ciel_run_line.specs.Runs.{digest_of}
use Rattle.ciel_run_line.proofs.answer.run.Goals as goal

pub returns-in-Sha1-clause-end : goal.returns-in-Sha1-clause-end
returns-in-Sha1-clause-end g c =
    subst (λ (n : NameKind). EndsSo (digest_of n) (job_view c.args.job) (g.K.Kit.gives c.args.kit) (plan_view c.args.plan)
    (map entry_view c.run_job.result.journal.items) c.run_job.result.end)
    (sym c.in-Sha1.is) c.run_job.ensures.end

pub returns-in-Sha256-clause-end : goal.returns-in-Sha256-clause-end
returns-in-Sha256-clause-end g c =
    subst (λ (n : NameKind). EndsSo (digest_of n) (job_view c.args.job) (g.K.Kit.gives c.args.kit) (plan_view c.args.plan)
    (map entry_view c.run_job-in-Sha256.result.journal.items) c.run_job-in-Sha256.result.end)
    (sym c.in-Sha256.is) c.run_job-in-Sha256.ensures.end
