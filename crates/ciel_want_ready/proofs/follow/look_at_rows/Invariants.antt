use Rattle.std.proofs.Common.{None}
use Rattle.ciel_want_ready.specs.Following.{Waits}
use Rattle.ciel_want_ready.proofs.LeastFollower.{Looked}
use Rattle.ciel_want_ready.proofs.follow.look_at_rows.Given as goal

abbrev pub invariant-loop-i : goal.invariant-loop-i
invariant-loop-i g l = Looked l.table l.task l.marks (λ x v. Waits l.marks x v) l.rows l.i None l.all
