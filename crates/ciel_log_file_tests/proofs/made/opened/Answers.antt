use Rattle.std.proofs.Common.{ap, subst, sym, true}
use Rattle.std.specs.Arc.{arc_value}
use Rattle.sky_base.specs.JobView.{job_view}
use Rattle.ciel_log_file.specs.Sending.{nobody}
use Rattle.ciel_master.specs.Seen.{MasterSeen}
use Rattle.ciel_run_drive.specs.Working.{Working}
use Rattle.ciel_run_job.proofs.Began.{working_at_first}
use Rattle.ciel_run_job.specs.Onward.{IsRead}
use Rattle.ciel_task_order.specs.Shop.{InputsInOrder}
use Rattle.ciel_log_file_tests.proofs.made.opened.Goals as goal

pub returns-clause-working : goal.returns-clause-working
returns-clause-working g c =
    let shop = arc_value c.in_ok-opened.opened.shop in
    let m = c.in_ok-opened.opened.master in
    let n = c.in_ok-opened.ensures in
    let o = n.opened in
    let job = c.in_ok-job.ensures in
    subst (λ k. Working g.K.Kit.gives g.N.Namer.digest shop true m (nobody k)) (sym (ap (λ (m : MasterSeen _). m.board.plan.workers) o.master))
    (working_at_first g.K.Kit.gives g.N.Namer.digest _ _ _ _ o (subst (λ j. IsRead (job_view j).script) (sym n.shop.job_is) job.read)
    (subst (λ j. InputsInOrder (job_view j)) (sym n.shop.job_is) job.inputs) c.functions_are_orderly.ensures.orderly)

pub returns-clause-first : goal.returns-clause-first
returns-clause-first g c = ap (λ (m : MasterSeen _). m.board.starts) c.in_ok-opened.ensures.opened.master
