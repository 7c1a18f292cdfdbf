use Rattle.std.proofs.Common.{◌≡◌}
use Rattle.crossbeam_deque.specs.Handles.{IsPassOf, stealer_deque}
use Rattle.ciel_steal_ready.specs.Seen.{known}
use Rattle.ciel_steal_ready.proofs.ends.steal.Given as goal

abbrev pub invariant-loop : goal.invariant-loop
invariant-loop g l = IsPassOf (stealer_deque l.thief) l.pass × (known l.pass ≡ known l.fn.pass)
