use Rattle.sky_base.specs.View.{view}
use Rattle.sky_base_scope.proofs.Vars.{kept_found}
use Rattle.sky_base_scope.proofs.state.State.find.Goals as goal

pub returns-in_ok-copy-in-Some-clause-kept : goal.returns-in_ok-copy-in-Some-clause-kept
returns-in_ok-copy-in-Some-clause-kept c =
    rw c.in_ok-copy-in-Some.ensures (kept_found c.args.name.now c.self.inside.vars (view c.in-Some.v.now) c.in-Some.ensures c.self.invariant)
