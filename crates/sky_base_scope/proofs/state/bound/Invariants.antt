use Rattle.std.proofs.Common.{◌≡◌, drop}
use Rattle.sky_base.specs.Eval.{bind, left}
use Rattle.sky_base_scope.specs.RunView.{KeptPairs}
use Rattle.sky_base_scope.proofs.state.bound.Given as goal

abbrev pub invariant-loop-i : goal.invariant-loop-i
invariant-loop-i l = record {
  kept : KeptPairs l.vars;
  bound : bind l.params l.args l.caught ≡ bind (drop l.i l.params) (left l.i l.args) l.vars;
}
