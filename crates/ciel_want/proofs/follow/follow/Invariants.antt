use Rattle.std.proofs.Common.{◌≡◌, ◌-◌, length}
use Rattle.ciel_want.proofs.UnmetWalks.{Walking}
use Rattle.ciel_want.specs.Board.{live_at, row_leads}
use Rattle.ciel_want.specs.Marked.{AllBelow, Marked}
use Rattle.ciel_want.proofs.follow.follow.Given as goal

abbrev pub invariant-walk : goal.invariant-walk
invariant-walk g l =
    record {
      walking : Walking (row_leads l.main l.table) (live_at l.table) (length l.table.rows) l.trail.items l.next;
      marked : Marked l.flags.items l.trail.items;
      below : AllBelow (length l.table.rows) l.trail.items;
      long : length l.flags.items ≡ length l.table.rows;
    }

abbrev pub decreases-walk : goal.decreases-walk
decreases-walk g l = length l.table.rows - length l.trail.items
