-- As they are shown.
use Rattle.std.proofs.Common.{◌++◌, ap, ◌∙◌}
use Rattle.ciel_look_text.proofs.label.say_desc.Goals as goal

pub returns : goal.returns
returns c = record { said = record { said = c.in_ok-put_all.ensures.put ∙ ap (λ z. c.args.line.now ++ z) c.in_ok-text.ensures.words } }
