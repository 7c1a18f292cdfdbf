use Rattle.std.proofs.Common.{◌≡◌, take}
use Rattle.sky_base.specs.Eval.{caught_by}
use Rattle.sky_base_scope.proofs.state.State.caught.Given as goal

abbrev pub invariant-loop-name : goal.invariant-loop-name
invariant-loop-name l = l.caught ≡ caught_by (take l.name-index l.names) l.self.vars
