use Rattle.ciel_task_call.proofs.RunOutcome.{ran_stack}
use Rattle.ciel_task_call.proofs.task.run.Goals as goal

pub returns-in-Lost-clause-ran : goal.returns-in-Lost-clause-ran
returns-in-Lost-clause-ran g c =
    let begun = rw c.in-Lost.is at c.in_ok-state.ensures.begun in
    ran_stack (g.N.Namer.digest c.args.shop.now.namer) c.args.shop.now.shelves c.args.shop.now.job.script c.args.shop.now.job.inputs
    c.args.order.now c.missing.result c.in-Lost.loss c.begin.new.eye c.missing.new.eye c.missing.ensures.same c.stack_name-name.result
    (c.stack_name-name.ensures (g.N.Namer.digest c.args.shop.now.namer)) begun c.missing.ensures.report
