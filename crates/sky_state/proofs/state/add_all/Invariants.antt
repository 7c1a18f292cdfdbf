use Rattle.std.proofs.Common.{◌≡◌, ◌++◌, take}
use Rattle.sky_base.specs.Val.{vals_refs}
use Rattle.sky_state.specs.Pending.{stack_refs}
use Rattle.sky_state.specs.StandView.{stack_view}
use Rattle.sky_state.proofs.state.add_all.Given as goal

abbrev pub invariant-loop-value : goal.invariant-loop-value
invariant-loop-value l = vals_refs l.values ≡ vals_refs l.initial.values ++ stack_refs (stack_view (take l.value-index l.stack))
