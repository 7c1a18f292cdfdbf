use Rattle.sky_base.specs.View.{view}
use Rattle.ciel_flow_work.proofs.AheadLaw.{of_call}
use Rattle.ciel_flow_work.proofs.make.is_of.Goals as goal

pub returns-then-is_call : goal.returns-then-is_call
returns-then-is_call c so =
    of_call c.args.executor.now (view c.args.args.now) c.args.outputs c.args.inputs.now c.as_slice.result.now c.args.left.now c.is_call.result
    c.is_call.ensures c.if-is_call.true c.as_slice.ensures.value (c.is_one.ensures so)
