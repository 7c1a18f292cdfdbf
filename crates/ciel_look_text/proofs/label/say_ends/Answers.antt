-- A count.
use Rattle.ciel_look_text.proofs.label.say_ends.Goals as goal

pub returns : goal.returns
returns c = record { said = c.in_ok-say_count.ensures.said }
