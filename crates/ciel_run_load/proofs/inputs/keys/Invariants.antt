use Rattle.std.proofs.Common.{◌≡◌, map, take}
use Rattle.ciel_run_load.specs.Line.{name_in}
use Rattle.ciel_run_load.proofs.inputs.keys.Given as goal

abbrev pub invariant-loop-input : goal.invariant-loop-input
invariant-loop-input l = l.keys.items ≡ map name_in (take l.input-index l.inputs)
