-- What was put is markup, behind markup.
use Rattle.std.proofs.Common.{sym, ◌∙◌, subst, is_ok}
use Rattle.ciel_look_shown.specs.Markup.{Markup}
use Rattle.ciel_look_shown.proofs.Built.{put_if, leaf_alone}
use Rattle.ciel_look_shown.proofs.markup.Markup.put_leaf.Goals as goal

pub invariant_of-self : goal.invariant_of-self
invariant_of-self c =
    subst Markup (sym c.extend_from_slice.ensures.items)
    (put_if (is_ok c.extend_from_slice.result) c.self.inside.held.items c.as_slice.result.now c.self.invariant
    (subst Markup (sym (c.as_slice.ensures ∙ c.in_ok-piece.ensures.bytes)) (leaf_alone c.args.tag c.args.attributes.now c.in_ok-piece.ensures.attributes)))
