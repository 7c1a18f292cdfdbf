-- All are sound exactly where those that are left are.
use Rattle.std.proofs.Common.{drop}
use Rattle.sky_base_law.specs.Sound.{Sound}
use Rattle.sky_base_law.specs.Tasks.{Each}
use Rattle.sky_state.specs.StandView.{stack_view}
use Rattle.sky_frozen.proofs.values.values_are_sound.Given as goal

abbrev pub invariant-loop-value : goal.invariant-loop-value
invariant-loop-value l =
    (Each (Sound l.captures) (stack_view (drop l.value-index l.values)) → Each (Sound l.captures) (stack_view l.values))
    × (Each (Sound l.captures) (stack_view l.values) → Each (Sound l.captures) (stack_view (drop l.value-index l.values)))
