use Rattle.std.proofs.Common.{◌≡◌, take}
use Rattle.sky_base_scope.specs.Plain.{items}
use Rattle.sky_state.specs.StandView.{stack_view}
use Rattle.sky_machine_open.proofs.parts.copies.Given as goal

abbrev pub invariant-loop-value : goal.invariant-loop-value
invariant-loop-value l = items l.values ≡ stack_view (take l.value-index l.kept)
