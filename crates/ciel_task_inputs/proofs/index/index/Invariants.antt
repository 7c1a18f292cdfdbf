use Rattle.std.proofs.Common.{take}
use Rattle.ciel_table.specs.Inside.{IsIndex}
use Rattle.ciel_task_inputs.specs.Lies.{held_name}
use Rattle.ciel_task_inputs.proofs.index.index.Given as goal

abbrev pub invariant-loop-place : goal.invariant-loop-place
invariant-loop-place l = IsIndex held_name l.index (take l.place l.held)
