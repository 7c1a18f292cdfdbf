use Rattle.std.proofs.Common.{◌≡◌, map, arith, ◌∙◌}
use Rattle.std.proofs.lemmas.Grind.{common_steps}
use Rattle.ciel_words.specs.Inputs.{input_in}
use Rattle.ciel_words.proofs.Mapped.{inputs_read}
use Rattle.ciel_words.proofs.inputs.inputs.Goals as goal

pub returns : goal.returns
returns c =
    let ws = c.args.words.now in
    let read : c.of.result ≡ map (λ w. input_in w.now) ws = grind (arith, common_steps) in
    read ∙ inputs_read ws
