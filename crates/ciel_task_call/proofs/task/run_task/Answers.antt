use Rattle.std.proofs.Common.{◌∙◌}
use Rattle.sky_base.specs.JobView.{job_view}
use Rattle.ciel_task_call.proofs.OrderPerformed.{performs, places}
use Rattle.ciel_task_call.proofs.ReportSafety.{ran_safe}
use Rattle.ciel_task_call.proofs.task.run_task.Goals as goal

pub returns-clause-performs : goal.returns-clause-performs
returns-clause-performs g c =
    performs (g.N.Namer.digest c.args.shop.now.namer) (job_view c.args.shop.now.job) (g.K.Kit.gives c.args.shop.now.kit) c.requires.inputs
    c.args.order.now c.args.shop.now.shelves c.requires.sound c.requires.state c.requires.read c.in_ok-report.report c.run.new.eye
    c.in_ok-report.ensures.ran

pub returns-clause-places : goal.returns-clause-places
returns-clause-places g c =
    places (g.N.Namer.digest c.args.shop.now.namer) (job_view c.args.shop.now.job) (g.K.Kit.gives c.args.shop.now.kit) c.requires.inputs
    c.args.order.now c.args.shop.now.shelves c.requires.sound c.requires.state c.requires.read c.in_ok-report.report c.run.new.eye
    (c.run.ensures.of ∙ c.requires.eye) c.in_ok-report.ensures.ran

pub returns-clause-safely : goal.returns-clause-safely
returns-clause-safely g c =
    ran_safe (g.N.Namer.digest c.args.shop.now.namer) c.args.shop.now.shelves (job_view c.args.shop.now.job).script (job_view c.args.shop.now.job).inputs
    c.args.order.now c.requires.sound c.requires.state c.in_ok-report.report c.run.new.eye c.in_ok-report.ensures.ran
