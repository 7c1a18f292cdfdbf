-- Nothing is markup.
use Rattle.std.proofs.Common.{sym, subst}
use Rattle.ciel_look_shown.specs.Markup.{Markup}
use Rattle.ciel_look_shown.proofs.markup.Markup.new.Goals as goal

pub invariant_of-result : goal.invariant_of-result
invariant_of-result c = subst Markup (sym c.new.ensures.items) Markup.nothing
