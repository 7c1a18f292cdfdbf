use Rattle.std.proofs.Common.{◌≡◌}
use Rattle.crossbeam_deque.specs.Injected.{injector_view, IsInjectorPassOf}
use Rattle.crossbeam_deque.specs.Handles.{worker_view, worker_flavor}
use Rattle.ciel_steal_ready.proofs.ends.fetch.Given as goal

abbrev pub invariant-loop : goal.invariant-loop
invariant-loop g l =
    IsInjectorPassOf l.shared l.pass × (injector_view l.pass ≡ injector_view l.fn.pass) × (worker_flavor l.own ≡ 0)
    × (worker_view l.own ≡ worker_view l.fn.own)
