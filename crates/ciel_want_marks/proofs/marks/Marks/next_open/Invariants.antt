use Rattle.std.proofs.Common.{◌≡◌, ◌≤◌, [], length}
use Rattle.ciel_want_marks.specs.Marks.{Needs, Stands}
use Rattle.ciel_want_marks.proofs.marks.Marks.next_open.Given as goal

abbrev pub invariant-search : goal.invariant-search
invariant-search l =
    record {
      same : l.self ≡ record l.fn.self { todo = l.self.todo };
      left : length l.self.todo ≤ length l.fn.self.todo;
      stands : (needs : Needs) → Stands l.fn.self needs [] [] → Stands l.self needs [] [];
    }

abbrev pub decreases-search : goal.decreases-search
decreases-search l = length l.self.todo
