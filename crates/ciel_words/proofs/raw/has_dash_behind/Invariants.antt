use Rattle.std.proofs.Common.{◌≡◌, drop, false}
use Rattle.ciel_words.specs.Raw.{dash_behind}
use Rattle.ciel_words.proofs.raw.has_dash_behind.Given as goal

abbrev pub invariant-loop-word : goal.invariant-loop-word
invariant-loop-word l = dash_behind l.waits (drop l.word-index l.words) ≡ dash_behind false l.words
