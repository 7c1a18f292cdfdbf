use Rattle.std.proofs.Common.{◌≡◌, ◌++◌, drop}
use Rattle.std.specs.Option.{option_map}
use Rattle.ciel_want_ready.specs.Fits.{dead_rows}
use Rattle.ciel_want_ready.proofs.needs.dead_rows.Given as goal

abbrev pub invariant-loop-i : goal.invariant-loop-i
invariant-loop-i g l =
    option_map (λ rs. l.rows ++ rs) (dead_rows l.table (drop l.i l.names)) ≡ dead_rows l.table l.names
