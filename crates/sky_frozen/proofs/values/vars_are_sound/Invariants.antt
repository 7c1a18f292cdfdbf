-- All are sound exactly where those that are left are.
use Rattle.std.proofs.Common.{drop}
use Rattle.sky_base.specs.View.{pairs_of}
use Rattle.sky_base_law.specs.Sound.{SoundVars}
use Rattle.sky_frozen.proofs.values.vars_are_sound.Given as goal

abbrev pub invariant-loop-var : goal.invariant-loop-var
invariant-loop-var l =
    (SoundVars l.captures (pairs_of (drop l.var-index l.vars)) → SoundVars l.captures (pairs_of l.vars))
    × (SoundVars l.captures (pairs_of l.vars) → SoundVars l.captures (pairs_of (drop l.var-index l.vars)))
