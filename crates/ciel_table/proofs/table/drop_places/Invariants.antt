use Rattle.std.proofs.Common.{◌≡◌, length}
use Rattle.ciel_table.specs.Changes.{row_without}
use Rattle.ciel_table.proofs.Partly.{partly}
use Rattle.ciel_table.proofs.table.drop_places.Given as goal

abbrev pub invariant-loop-i : goal.invariant-loop-i
invariant-loop-i g l =
    record { same : length l.rows.items ≡ length l.fn.rows.items; done : l.rows.items ≡ partly (row_without g.P.At.at l.worker) l.i l.fn.rows.items }
