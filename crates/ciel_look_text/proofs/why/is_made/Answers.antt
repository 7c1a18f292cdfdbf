-- The task that makes it.
use Rattle.std.proofs.Common.{ap, sym, ◌∙◌}
use Rattle.ciel_look_text.specs.Why.{is_maker}
use Rattle.ciel_look_text.proofs.why.is_made.Goals as goal

pub returns-in-Some : goal.returns-in-Some
returns-in-Some c = c.is_same.ensures ∙ ap (is_maker c.args.id.now) (sym c.in-Some.ensures.maker)

pub returns-in-None : goal.returns-in-None
returns-in-None c = ap (is_maker c.args.id.now) (sym c.in-None.ensures.maker)
