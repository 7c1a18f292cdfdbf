-- The names are those that the line asks for.
use Rattle.std.proofs.Common.{map, subst, sym}
use Rattle.sky_base.specs.JobView.{job_view}
use Rattle.ciel_log.specs.Logs.{LogWritten}
use Rattle.ciel_run_logged.specs.Ended.{EndsSo}
use Rattle.ciel_run_logged.specs.Keeping.{IfOver}
use Rattle.ciel_master.specs.Seen.{plan_view}
use Rattle.ciel_master.specs.Views.{entry_view}
use Rattle.ciel_words.specs.declared.words.NameKind.{NameKind}
use Rattle.ciel_run_line.specs.Runs.{digest_of}
use Rattle.ciel_run_line.proofs.answer.run_with_log.Goals as goal

pub returns-in-Sha1-clause-end : goal.returns-in-Sha1-clause-end
returns-in-Sha1-clause-end g c =
    subst (λ (n : NameKind). EndsSo (digest_of n) (job_view c.args.job) (g.K.Kit.gives c.args.kit) (plan_view c.args.plan)
    (map entry_view c.run_logged.result.ran.journal.items) c.run_logged.result.ran.end)
    (sym c.in-Sha1.is) c.run_logged.ensures.end

pub returns-in-Sha1-clause-written : goal.returns-in-Sha1-clause-written
returns-in-Sha1-clause-written g c =
    subst (λ (n : NameKind). IfOver c.run_logged.result.ran.end (LogWritten (digest_of n) (job_view c.args.job) (g.K.Kit.gives c.args.kit) (plan_view c.args.plan) c.args.log.path
    c.args.log.held (g.D.Keep.files c.args.keep.now) (g.D.Keep.files c.run_logged.new.keep) (map entry_view c.run_logged.result.ran.journal.items) c.run_logged.result.state))
    (sym c.in-Sha1.is) c.run_logged.ensures.written

pub returns-in-Sha256-clause-end : goal.returns-in-Sha256-clause-end
returns-in-Sha256-clause-end g c =
    subst (λ (n : NameKind). EndsSo (digest_of n) (job_view c.args.job) (g.K.Kit.gives c.args.kit) (plan_view c.args.plan)
    (map entry_view c.run_logged-in-Sha256.result.ran.journal.items) c.run_logged-in-Sha256.result.ran.end)
    (sym c.in-Sha256.is) c.run_logged-in-Sha256.ensures.end

pub returns-in-Sha256-clause-written : goal.returns-in-Sha256-clause-written
returns-in-Sha256-clause-written g c =
    subst (λ (n : NameKind). IfOver c.run_logged-in-Sha256.result.ran.end (LogWritten (digest_of n) (job_view c.args.job) (g.K.Kit.gives c.args.kit) (plan_view c.args.plan) c.args.log.path
    c.args.log.held (g.D.Keep.files c.args.keep.now) (g.D.Keep.files c.run_logged-in-Sha256.new.keep) (map entry_view c.run_logged-in-Sha256.result.ran.journal.items) c.run_logged-in-Sha256.result.state))
    (sym c.in-Sha256.is) c.run_logged-in-Sha256.ensures.written
