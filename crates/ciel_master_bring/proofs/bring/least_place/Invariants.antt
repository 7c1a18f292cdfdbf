use Rattle.std.proofs.Common.{◌≡◌, ◌≤◌, length, drop}
use Rattle.ciel_master_board.specs.Board.{least_place}
use Rattle.ciel_master_bring.specs.Brings.{worker_of}
use Rattle.ciel_master_bring.proofs.bring.least_place.Given as goal

abbrev pub invariant-loop-i : goal.invariant-loop-i
invariant-loop-i l =
    record { within : l.i ≤ length l.places; best : l.best ≡ least_place worker_of (drop l.i l.places) }

abbrev pub decreases-loop-i : goal.decreases-loop-i
decreases-loop-i l = l.i
