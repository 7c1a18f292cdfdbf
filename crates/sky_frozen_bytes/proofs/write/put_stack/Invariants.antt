-- What is left to write stands behind what was written.
use Rattle.std.proofs.Common.{◌≡◌, ◌++◌, flat_map, drop}
use Rattle.sky_base.specs.Name.{bytes}
use Rattle.sky_state.specs.StandView.{stack_view}
use Rattle.sky_frozen_bytes.proofs.write.put_stack.Given as goal

abbrev pub invariant-loop-value : goal.invariant-loop-value
invariant-loop-value l =
    l.initial.out ++ flat_map bytes (stack_view l.stack) ≡ l.out ++ flat_map bytes (stack_view (drop l.value-index l.stack))
