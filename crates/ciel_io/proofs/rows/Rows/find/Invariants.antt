-- No row before the place is the one that is looked for.
use Rattle.std.proofs.Common.{◌≡◌, drop}
use Rattle.ciel_io.specs.Rows.{place_of}
use Rattle.ciel_io.proofs.RowsLaw.{behind}
use Rattle.ciel_io.proofs.rows.Rows.find.Given as goal

abbrev pub invariant-loop-place : goal.invariant-loop-place
invariant-loop-place l = place_of l.self.rows l.row ≡ behind l.place (place_of (drop l.place l.self.rows) l.row)
