use Rattle.std.proofs.Common.{◌≡◌, ◌++◌, drop, map}
use Rattle.sky_base.specs.declared.object.TaskId.{TaskId}
use Rattle.ciel_table.specs.declared.row.Row.{Row}
use Rattle.ciel_want.specs.Waited.{is_in}
use Rattle.ciel_want_ready.specs.Fits.{outs}
use Rattle.ciel_want_ready.proofs.anew.outs.Given as goal

abbrev pub invariant-loop-row : goal.invariant-loop-row
invariant-loop-row g l = l.flags.items ++ map (λ (r : Row g.row.P.Denot). is_in l.tasks (TaskId.Of r.name)) (drop l.row l.table.rows)
    ≡ outs l.table l.tasks
