use Rattle.std.proofs.Common.{◌≡◌, false, [], length}
use Rattle.ciel_want_marks.specs.Lists.{flag}
use Rattle.ciel_want_marks.specs.Marks.{Needs, Right, Stands}
use Rattle.ciel_want_marks.specs.Moves.{Placed}
use Rattle.ciel_want_marks.proofs.marks.Marks.place.Given as goal

abbrev pub invariant-waiting : goal.invariant-waiting
invariant-waiting l =
    record {
      placed : Placed l.row l.fn.self l.self;
      stands : (needs : Needs) → flag l.fn.self.live l.row ≡ false → Right l.fn.self needs → Stands l.self needs [] l.waiting;
      none : (needs : Needs) → Right l.fn.self needs → l.self.todo ≡ [];
    }

abbrev pub decreases-waiting : goal.decreases-waiting
decreases-waiting l = length l.waiting
