use Rattle.std.proofs.Common.{◌≡◌, ◌≤◌, length, drop}
use Rattle.ciel_want_marks.specs.Moves.{wants_makers}
use Rattle.ciel_want_marks.proofs.marks.Marks.want_makers.Given as goal

abbrev pub invariant-loop-i : goal.invariant-loop-i
invariant-loop-i l =
    record { within : l.i ≤ length l.rows; self : l.self ≡ wants_makers (drop l.i l.rows) l.fn.self }

abbrev pub decreases-loop-i : goal.decreases-loop-i
decreases-loop-i l = l.i
