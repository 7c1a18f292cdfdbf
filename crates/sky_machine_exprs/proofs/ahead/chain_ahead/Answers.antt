use Rattle.std.proofs.Common.{◌+◌, sym, ap, ◌∙◌, subst}
use Rattle.sky_base.specs.Tree.{nodes}
use Rattle.sky_base.specs.TreeView.{exp_view}
use Rattle.sky_base_law.specs.Opened.{HasLinks}
use Rattle.sky_base_law.specs.Nodes.{node_at}
use Rattle.sky_machine_code.specs.Shapes.{operands_view}
use Rattle.sky_machine_exprs.proofs.Firsts.{first_at, first_has}
use Rattle.sky_machine_exprs.proofs.ahead.chain_ahead.Goals as goal

pub after_exp-next-requires : goal.after_exp-next-requires
after_exp-next-requires c =
    first_has (λ i. node_at c.args.code.now i) c.args.first.now (exp_view c.get-e.result.now) c.args.node c.inside-part.result c.get-e.ensures
    c.inside-part.ensures.some c.requires.has.1

pub links_ahead-requires-clause-links : goal.links_ahead-requires-clause-links
links_ahead-requires-clause-links c =
    let n = c.args.node in
    let e = c.args.first.now in
    let e' = exp_view c.get-e.result.now in
    let is = first_at (λ i. node_at c.args.code.now i) e n c.inside-part.result c.inside-part.ensures.some c.requires.has.1 in
    let next = c.after_exp-next.ensures ∙ ap (λ m. m + nodes e') is ∙ ap (λ x. n + 1 + nodes x) c.get-e.ensures in
    subst (HasLinks (λ i. node_at c.args.code.now i) (operands_view c.args.rest)) (sym next) c.requires.has.2
