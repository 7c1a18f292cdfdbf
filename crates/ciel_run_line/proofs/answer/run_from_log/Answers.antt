-- The names are those that the line asks for.
use Rattle.std.proofs.Common.{◌≢◌, ℕ, List, ◌≡◌, Err, IfOk, length, map, subst, sym}
use Rattle.sky_base.specs.JobView.{job_view}
use Rattle.ciel_journal.specs.Entries.{Entry}
use Rattle.ciel_log_follows.specs.Begins.{BeginsLog}
use Rattle.ciel_log_refuses.specs.Refusals.{IsBadAt}
use Rattle.ciel_master.specs.Seen.{plan_view}
use Rattle.ciel_master.specs.Views.{entry_view}
use Rattle.ciel_master.specs.declared.stop.RunEnd.{RunEnd}
use Rattle.ciel_run_logged.specs.Ended.{EndsSo}
use Rattle.ciel_run_logged.specs.Keeping.{IfOver}
use Rattle.ciel_run_logged.specs.Told.{told_of}
use Rattle.ciel_run_onward.specs.Gates.{ToldSince}
use Rattle.ciel_run_resumed.specs.Resuming.{FileTells, Replays}
use Rattle.ciel_run_resumed.specs.declared.run.NotResumed.{NotResumed}
use Rattle.ciel_words.specs.declared.words.NameKind.{NameKind}
use Rattle.ciel_run_line.specs.Runs.{digest_of}
use Rattle.ciel_run_line.proofs.answer.run_from_log.Goals as goal

pub returns-in-Sha1-clause-bad : goal.returns-in-Sha1-clause-bad
returns-in-Sha1-clause-bad g c =
    subst (λ (n : NameKind). (at : ℕ) → c.run_resumed.result ≡ Err (NotResumed.BadLog at)
    → IsBadAt (digest_of n) (job_view c.args.job) (g.K.Kit.gives c.args.kit) (plan_view c.args.plan) c.args.resumes.header.now c.args.resumes.log.now at)
    (sym c.in-Sha1.is) c.run_resumed.ensures.bad

pub returns-in-Sha1-clause-end : goal.returns-in-Sha1-clause-end
returns-in-Sha1-clause-end g c =
    subst (λ (n : NameKind). BeginsLog (digest_of n) (job_view c.args.job) (g.K.Kit.gives c.args.kit) (plan_view c.args.plan) c.args.resumes.header.now c.args.resumes.log.now
    → IfOk c.run_resumed.result (λ r. EndsSo (digest_of n) (job_view c.args.job) (g.K.Kit.gives c.args.kit) (plan_view c.args.plan) (map entry_view r.ran.journal.items)
    r.ran.end)) (sym c.in-Sha1.is) c.run_resumed.ensures.end

pub returns-in-Sha1-clause-told : goal.returns-in-Sha1-clause-told
returns-in-Sha1-clause-told g c =
    subst (λ (n : NameKind). IfOk c.run_resumed.result (λ r. r.ran.end ≢ RunEnd.Memory → (replayed : List Entry)
    × (BeginsLog (digest_of n) (job_view c.args.job) (g.K.Kit.gives c.args.kit) (plan_view c.args.plan) c.args.resumes.header.now c.args.resumes.log.now
    → Replays (digest_of n) (job_view c.args.job) (g.K.Kit.gives c.args.kit) (plan_view c.args.plan) c.args.resumes.header.now c.args.resumes.log.now replayed)
    × ToldSince replayed (map entry_view r.ran.journal.items) (told_of g.G.Gate.entered c.args.plan.workers c.args.gates.now.items)
    (told_of g.G.Gate.entered c.args.plan.workers c.run_resumed.new.gates.items))) (sym c.in-Sha1.is) c.run_resumed.ensures.told

pub returns-in-Sha1-clause-written : goal.returns-in-Sha1-clause-written
returns-in-Sha1-clause-written g c =
    subst (λ (n : NameKind). BeginsLog (digest_of n) (job_view c.args.job) (g.K.Kit.gives c.args.kit) (plan_view c.args.plan) c.args.resumes.header.now c.args.resumes.log.now
    → IfOk c.run_resumed.result (λ r. IfOver r.ran.end (FileTells (digest_of n) (job_view c.args.job) (g.K.Kit.gives c.args.kit) (plan_view c.args.plan)
    c.args.resumes.header.now c.args.resumes.path (g.D.Keep.files c.run_resumed.new.keep) (map entry_view r.ran.journal.items) r.state)))
    (sym c.in-Sha1.is) c.run_resumed.ensures.written

pub returns-in-Sha256-clause-bad : goal.returns-in-Sha256-clause-bad
returns-in-Sha256-clause-bad g c =
    subst (λ (n : NameKind). (at : ℕ) → c.run_resumed-in-Sha256.result ≡ Err (NotResumed.BadLog at)
    → IsBadAt (digest_of n) (job_view c.args.job) (g.K.Kit.gives c.args.kit) (plan_view c.args.plan) c.args.resumes.header.now c.args.resumes.log.now at)
    (sym c.in-Sha256.is) c.run_resumed-in-Sha256.ensures.bad

pub returns-in-Sha256-clause-end : goal.returns-in-Sha256-clause-end
returns-in-Sha256-clause-end g c =
    subst (λ (n : NameKind). BeginsLog (digest_of n) (job_view c.args.job) (g.K.Kit.gives c.args.kit) (plan_view c.args.plan) c.args.resumes.header.now c.args.resumes.log.now
    → IfOk c.run_resumed-in-Sha256.result (λ r. EndsSo (digest_of n) (job_view c.args.job) (g.K.Kit.gives c.args.kit) (plan_view c.args.plan)
    (map entry_view r.ran.journal.items) r.ran.end)) (sym c.in-Sha256.is) c.run_resumed-in-Sha256.ensures.end

pub returns-in-Sha256-clause-told : goal.returns-in-Sha256-clause-told
returns-in-Sha256-clause-told g c =
    subst (λ (n : NameKind). IfOk c.run_resumed-in-Sha256.result (λ r. r.ran.end ≢ RunEnd.Memory → (replayed : List Entry)
    × (BeginsLog (digest_of n) (job_view c.args.job) (g.K.Kit.gives c.args.kit) (plan_view c.args.plan) c.args.resumes.header.now c.args.resumes.log.now
    → Replays (digest_of n) (job_view c.args.job) (g.K.Kit.gives c.args.kit) (plan_view c.args.plan) c.args.resumes.header.now c.args.resumes.log.now replayed)
    × ToldSince replayed (map entry_view r.ran.journal.items) (told_of g.G.Gate.entered c.args.plan.workers c.args.gates.now.items)
    (told_of g.G.Gate.entered c.args.plan.workers c.run_resumed-in-Sha256.new.gates.items))) (sym c.in-Sha256.is)
    c.run_resumed-in-Sha256.ensures.told

pub returns-in-Sha256-clause-written : goal.returns-in-Sha256-clause-written
returns-in-Sha256-clause-written g c =
    subst (λ (n : NameKind). BeginsLog (digest_of n) (job_view c.args.job) (g.K.Kit.gives c.args.kit) (plan_view c.args.plan) c.args.resumes.header.now c.args.resumes.log.now
    → IfOk c.run_resumed-in-Sha256.result (λ r. IfOver r.ran.end (FileTells (digest_of n) (job_view c.args.job) (g.K.Kit.gives c.args.kit) (plan_view c.args.plan)
    c.args.resumes.header.now c.args.resumes.path (g.D.Keep.files c.run_resumed-in-Sha256.new.keep) (map entry_view r.ran.journal.items) r.state)))
    (sym c.in-Sha256.is) c.run_resumed-in-Sha256.ensures.written

pub returns-in-Sha1-clause-all : goal.returns-in-Sha1-clause-all
returns-in-Sha1-clause-all g c =
    subst (λ (n : ℕ). IfOk c.run_resumed.result (λ r. r.ran.end ≢ RunEnd.Memory → length c.run_resumed.new.gates.items ≡ n)) c.requires.gates
    c.run_resumed.ensures.all

pub returns-in-Sha256-clause-all : goal.returns-in-Sha256-clause-all
returns-in-Sha256-clause-all g c =
    subst (λ (n : ℕ). IfOk c.run_resumed-in-Sha256.result (λ r. r.ran.end ≢ RunEnd.Memory → length c.run_resumed-in-Sha256.new.gates.items ≡ n))
    c.requires.gates c.run_resumed-in-Sha256.ensures.all
