use Rattle.std.proofs.Common.{◌≡◌, drop, map}
use Rattle.ciel_words.specs.Inputs.{key_in, all_apart}
use Rattle.ciel_words.proofs.inputs.are_apart.Given as goal

abbrev pub invariant-loop-at : goal.invariant-loop-at
invariant-loop-at l = all_apart (map (λ w. key_in w.now) (drop l.at l.words)) ≡ all_apart (map (λ w. key_in w.now) l.words)
