use Rattle.std.proofs.Common.{◌≡◌, drop, map}
use Rattle.sky_base.specs.Eval.{is_one_of}
use Rattle.ciel_words.specs.Inputs.{key_in}
use Rattle.ciel_words.proofs.inputs.is_among.Given as goal

abbrev pub invariant-loop-word : goal.invariant-loop-word
invariant-loop-word l =
    is_one_of l.key (map (λ w. key_in w.now) (drop l.word-index l.words)) ≡ is_one_of l.key (map (λ w. key_in w.now) l.words)
