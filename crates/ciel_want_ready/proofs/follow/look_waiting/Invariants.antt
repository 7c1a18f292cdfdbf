use Rattle.std.proofs.Common.{◌≡◌}
use Rattle.ciel_want_ready.proofs.LeastFollower.{Looked}
use Rattle.ciel_want_ready.proofs.follow.look_waiting.Given as goal

abbrev pub invariant-loop-i : goal.invariant-loop-i
invariant-loop-i g l = Looked l.table l.task l.marks (λ x v. v ≡ x) l.nodes l.i l.fn.best l.all
