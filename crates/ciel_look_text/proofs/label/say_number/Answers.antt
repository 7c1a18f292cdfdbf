-- As it is shown.
use Rattle.ciel_look_text.proofs.label.say_number.Goals as goal

pub returns : goal.returns
returns c = record { said = record { said = c.in_ok-put_number.ensures.put } }
