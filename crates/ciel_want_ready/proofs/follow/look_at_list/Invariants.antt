use Rattle.std.proofs.Common.{◌≡◌, Some}
use Rattle.ciel_want_marks.specs.Lists.{entry}
use Rattle.ciel_want_ready.proofs.LeastFollower.{Looked}
use Rattle.ciel_want_ready.proofs.follow.look_at_list.Given as goal

abbrev pub invariant-loop-i : goal.invariant-loop-i
invariant-loop-i g l = Looked l.table l.task l.marks (λ x v. entry l.marks.makers x ≡ Some v) l.list l.i l.fn.best l.all
