-- What is left to put stands behind what was put.
use Rattle.std.proofs.Common.{◌≡◌, ◌++◌, drop}
use Rattle.sky_base.specs.View.{vals_of}
use Rattle.sky_base_scope.specs.Plain.{items}
use Rattle.sky_state.specs.StandView.{stack_view}
use Rattle.sky_machine_save.proofs.kept.put_all.Given as goal

abbrev pub invariant-loop-value : goal.invariant-loop-value
invariant-loop-value l =
    stack_view l.initial.stack.items ++ items (vals_of l.value-items) ≡ stack_view l.stack.items ++ items (vals_of (drop l.value-index l.value-items))
