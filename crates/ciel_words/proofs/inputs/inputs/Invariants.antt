use Rattle.std.proofs.Common.{◌≡◌, ◌++◌, map, drop}
use Rattle.ciel_words.specs.Inputs.{input_in}
use Rattle.ciel_words.proofs.inputs.inputs.Given as goal

abbrev pub invariant-loop-word : goal.invariant-loop-word
invariant-loop-word l = l.items.items ++ map (λ w. input_in w.now) (drop l.word-index l.words) ≡ map (λ w. input_in w.now) l.words
