use Rattle.std.proofs.Common.{◌≡◌, ◌++◌, drop, map}
use Rattle.ciel_want_ready.specs.Fits.{maker_of}
use Rattle.ciel_want_ready.proofs.anew.makers.Given as goal

abbrev pub invariant-loop-row : goal.invariant-loop-row
invariant-loop-row g l = l.nodes.items ++ map (maker_of l.table) (drop l.row l.table.rows) ≡ map (maker_of l.table) l.table.rows
