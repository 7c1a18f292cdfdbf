use Rattle.std.proofs.Common.{◌+◌, sym, subst}
use Rattle.sky_base.specs.Tree.{Exp}
use Rattle.sky_base.specs.TreeView.{exp_view}
use Rattle.sky_base_law.specs.Nodes.{node_at}
use Rattle.sky_base_law.specs.Opened.{exp_node, HasLinks}
use Rattle.sky_machine_code.specs.Shapes.{operands_view}
use Rattle.sky_machine_open.proofs.Places.{exp_in, second_is}
use Rattle.sky_machine_open.proofs.chain.open_chain.Goals as goal

pub after_exp-second-requires : goal.after_exp-second-requires
after_exp-second-requires c =
    let e = c.args.first.now in
    let here = c.inside.ensures.here (exp_node (Exp.chain e (operands_view c.args.rest))) c.requires.0 in
    exp_in (λ i. node_at c.args.code.now i) e (exp_view c.get.result.now) (c.args.node + 1) c.inside.result c.get.ensures here c.requires.1

pub open_operand-requires-clause-has : goal.open_operand-requires-clause-has
open_operand-requires-clause-has c =
    let e = c.args.first.now in
    let here = c.inside.ensures.here (exp_node (Exp.chain e (operands_view c.args.rest))) c.requires.0 in
    let second = second_is e (exp_view c.get.result.now) c.args.node c.inside.result c.after_exp-second.result c.get.ensures here
    c.after_exp-second.ensures in
    subst (HasLinks (λ i. node_at c.args.code.now i) (operands_view c.args.rest)) (sym second) c.requires.2
