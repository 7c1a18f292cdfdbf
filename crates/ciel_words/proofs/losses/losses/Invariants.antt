-- The losses so far and those of the pieces that are left are the losses of all pieces.
use Rattle.std.proofs.Common.{◌≡◌, ◌+◌, ◌++◌, length, option_map}
use Rattle.ciel_words.specs.Values.{each_loss, pieces}
use Rattle.ciel_words.proofs.Pieces.{left}
use Rattle.ciel_words.proofs.losses.losses.Given as goal

abbrev pub invariant-loop-rest : goal.invariant-loop-rest
invariant-loop-rest l = record {
  read : each_loss l.workers (pieces l.value) ≡ option_map (λ more. l.items.items ++ more) (each_loss l.workers (left l.rest));
  count : length l.items.items + length (left l.rest) ≡ length (pieces l.value);
}

abbrev pub decreases-loop-rest : goal.decreases-loop-rest
decreases-loop-rest l = length (left l.rest)
