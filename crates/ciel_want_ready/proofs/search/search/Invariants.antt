use Rattle.std.proofs.Common.{◌≡◌, []}
use Rattle.ciel_want_marks.specs.Marks.{Stands}
use Rattle.ciel_want_marks.specs.Moves.{left_of}
use Rattle.ciel_want_ready.specs.Fits.{lives, makers, needs_by}
use Rattle.ciel_want_ready.proofs.search.search.Given as goal

abbrev pub invariant-search : goal.invariant-search
invariant-search g l =
    record {
      stands : Stands l.marks (needs_by l.main l.table) [] [];
      live : l.marks.live ≡ lives l.table;
      makers_are : l.marks.makers ≡ makers l.table;
      out : l.marks.out ≡ l.fn.marks.out;
    }

abbrev pub decreases-search : goal.decreases-search
decreases-search g l = left_of l.marks
