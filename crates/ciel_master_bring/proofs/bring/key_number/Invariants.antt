use Rattle.std.proofs.Common.{◌≡◌, ◌≤◌, ◌+◌, length, drop}
use Rattle.std.specs.Option.{option_map}
use Rattle.ciel_master_board.specs.Board.{key_number}
use Rattle.ciel_master_bring.proofs.bring.key_number.Given as goal

abbrev pub invariant-loop-i : goal.invariant-loop-i
invariant-loop-i l =
    record { within : l.i ≤ length l.keys; best : l.best ≡ option_map (λ k. l.i + k) (key_number (drop l.i l.keys) l.key) }

abbrev pub decreases-loop-i : goal.decreases-loop-i
decreases-loop-i l = l.i
