-- The sum so far is that of the lengths before the index.
use Rattle.std.proofs.Common.{◌≡◌, take}
use Rattle.ciel_io.specs.Rows.{total}
use Rattle.ciel_io.proofs.rows.start_of.Given as goal

abbrev pub invariant-loop-length : goal.invariant-loop-length
invariant-loop-length l = l.start ≡ total (take l.length-index l.length-items)
