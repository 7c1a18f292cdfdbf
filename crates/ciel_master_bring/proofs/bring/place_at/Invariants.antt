use Rattle.std.proofs.Common.{◌≡◌, ◌≤◌, length, drop}
use Rattle.ciel_master_board.specs.Board.{place_at}
use Rattle.ciel_master_bring.specs.Brings.{worker_of}
use Rattle.ciel_master_bring.proofs.bring.place_at.Given as goal

abbrev pub invariant-loop-i : goal.invariant-loop-i
invariant-loop-i l =
    record { within : l.i ≤ length l.places; best : l.best ≡ place_at worker_of l.worker (drop l.i l.places) }

abbrev pub decreases-loop-i : goal.decreases-loop-i
decreases-loop-i l = l.i
