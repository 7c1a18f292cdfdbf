-- As it is known.
use Rattle.std.proofs.Common.{ap, sym, ◌∙◌}
use Rattle.ciel_look_text.specs.Now.{is_input}
use Rattle.ciel_look_text.proofs.replay.is_input.Goals as goal

pub returns-in-Some : goal.returns-in-Some
returns-in-Some c = c.is_given.ensures ∙ sym (ap is_input c.in-Some.ensures.found)

pub returns-in-None : goal.returns-in-None
returns-in-None c = sym (ap is_input c.in-None.ensures.found)
