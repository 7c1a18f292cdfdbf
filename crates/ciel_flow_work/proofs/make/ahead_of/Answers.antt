use Rattle.std.proofs.Common.{Ok, ap, subst, sym, ◌∙◌}
use Rattle.std.specs.Prelude.{IsSomeAnd}
use Rattle.sky_base.specs.View.{view}
use Rattle.sky_base_exec.specs.Perform.{without_place}
use Rattle.ciel_flow_work.specs.Ahead.{IsOfCall}
use Rattle.ciel_flow_work.proofs.AheadLaw.{ahead_gives}
use Rattle.ciel_flow_work.proofs.make.ahead_of.Goals as goal

pub returns-then-is_of-clause-made : goal.returns-then-is_of-clause-made
returns-then-is_of-clause-made c =
    c.made_ahead.ensures
    ∙ ap without_place
    (sym (ahead_gives c.args.executor.now (view c.args.args.now) c.args.outputs c.args.inputs.now c.in_ok-left.left (c.is_of.ensures c.if-is_of.true)))

pub returns-then-is_of-clause-call : goal.returns-then-is_of-clause-call
returns-then-is_of-clause-call c =
    subst (λ o. IsSomeAnd o (IsOfCall c.args.executor.now (view c.args.args.now) c.args.outputs (Ok c.args.inputs.now))) (sym c.in_ok-left.was)
    (c.is_of.ensures c.if-is_of.true)
