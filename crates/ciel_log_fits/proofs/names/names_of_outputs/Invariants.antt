-- The names so far, and those of the outputs that are left, are all.
use Rattle.std.proofs.Common.{◌≡◌, ◌++◌, ◌-◌}
use Rattle.sky_base.specs.View.{view}
use Rattle.ciel_master_safe.specs.Reports.{names_from}
use Rattle.ciel_log_fits.proofs.names.names_of_outputs.Given as goal

abbrev pub invariant-loop-index : goal.invariant-loop-index
invariant-loop-index g l =
    let digest = g.N.Namer.digest l.namer in
    l.names ++ names_from digest l.executor (view l.args) l.outputs l.index (l.outputs - l.index)
    ≡ names_from digest l.executor (view l.args) l.outputs 0 l.outputs
