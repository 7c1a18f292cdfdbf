use Rattle.std.proofs.Common.{ap, subst, ◌∙◌}
use Rattle.sky_base.specs.JobView.{job_view}
use Rattle.sky_base.specs.View.{view}
use Rattle.sky_base_exec.specs.Perform.{made_of}
use Rattle.ciel_task_exec.specs.Runs.{CopiedOf, FoundSo, LostOf}
use Rattle.ciel_task_exec.proofs.order.run_order.Goals as goal

pub tell-requires-clause-made : goal.tell-requires-clause-made
tell-requires-clause-made g c =
    let ins = (job_view c.args.shop.now.job).inputs in
    let a = view c.args.args.now in
    c.in_ok-made-in-All.ensures.made
    ∙ ap (made_of (g.K.Kit.gives c.args.shop.now.kit) c.args.executor.now a c.args.outputs)
    (subst (FoundSo ins c.args.order.now.inputs.items a) c.in-All.is c.in_ok-found.ensures.found)

pub tell-requires-clause-copied : goal.tell-requires-clause-copied
tell-requires-clause-copied g c =
    subst (CopiedOf c.args.shop.now.shelves (job_view c.args.shop.now.job).inputs c.args.order.now (view c.args.args.now)) c.in-All.is
    c.in_ok-found.ensures.copied

pub tell_loss-requires-clause-found : goal.tell_loss-requires-clause-found
tell_loss-requires-clause-found g c =
    subst (FoundSo (job_view c.args.shop.now.job).inputs c.args.order.now.inputs.items (view c.args.args.now)) c.in-Lost.is c.in_ok-found.ensures.found

pub tell_loss-requires-clause-lost : goal.tell_loss-requires-clause-lost
tell_loss-requires-clause-lost g c = subst (λ r. LostOf r c.find_order.new.eye) c.in-Lost.is c.in_ok-found.ensures.lost

pub returns-in_ok-report-in-All-clause-seen : goal.returns-in_ok-report-in-All-clause-seen
returns-in_ok-report-in-All-clause-seen g c = c.in_ok-report-in-All.ensures.seen _
