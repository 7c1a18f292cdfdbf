use Rattle.std.proofs.Common.{◌≡◌, None, take}
use Rattle.ciel_table.specs.Named.{found}
use Rattle.ciel_task_inputs.specs.Lies.{held_name}
use Rattle.ciel_task_inputs.proofs.places.first_named.Given as goal

abbrev pub invariant-loop-place : goal.invariant-loop-place
invariant-loop-place l = found held_name l.name (take l.place l.held) ≡ None
