use Rattle.std.proofs.Common.{◌≤◌, length}
use Rattle.ciel_want_marks.proofs.InitialMarks.{Filing}
use Rattle.ciel_want_marks.proofs.marks.Marks.begin.Given as goal

abbrev pub invariant-loop-row : goal.invariant-loop-row
invariant-loop-row l =
    record {
      filing : Filing l.fn.live.items l.fn.makers.items l.fn.out.items l.row l.marks;
      within : l.row ≤ length l.fn.live.items;
    }
