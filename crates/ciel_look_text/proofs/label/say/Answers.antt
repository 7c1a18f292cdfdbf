-- As it is shown.
use Rattle.std.proofs.Common.{◌++◌, ap, ◌∙◌}
use Rattle.ciel_look_shown.specs.Plain.{shown}
use Rattle.ciel_look_text.proofs.label.say.Goals as goal

pub returns : goal.returns
returns c = record { said = record { said = c.in_ok-put.ensures.put ∙ ap (λ b. c.args.line.now ++ shown b) c.as_bytes.ensures.value } }
