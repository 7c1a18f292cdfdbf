-- What was put is an attribute, behind attributes.
use Rattle.std.proofs.Common.{◌++◌, ap, cond, sym, ◌∙◌, subst, is_ok}
use Rattle.ciel_look_shown.specs.Markup.{AreAttributes}
use Rattle.ciel_look_shown.proofs.Built.{attributes_put}
use Rattle.ciel_look_shown.proofs.markup.Attributes.put.Goals as goal

pub invariant_of-self : goal.invariant_of-self
invariant_of-self c =
    subst AreAttributes (sym (c.extend_from_slice.ensures.items
    ∙ ap (λ p. cond (is_ok c.extend_from_slice.result) (c.self.inside.held.items ++ p) c.self.inside.held.items)
    (c.as_slice.ensures ∙ c.in_ok-piece.ensures.bytes)))
    (attributes_put (is_ok c.extend_from_slice.result) c.self.inside.held.items c.args.value.now c.args.attribute c.self.invariant
    c.in_ok-piece.ensures.plain)
