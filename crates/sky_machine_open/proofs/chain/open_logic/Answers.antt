use Rattle.std.proofs.Common.{◌+◌, sym, subst}
use Rattle.sky_base.specs.Tree.{Exp}
use Rattle.sky_base.specs.TreeView.{exp_view, ands_view}
use Rattle.sky_base_law.specs.Nodes.{node_at}
use Rattle.sky_base_law.specs.Opened.{exp_node, HasAnds}
use Rattle.sky_machine_code.specs.Shapes.{stops_at}
use Rattle.sky_machine_open.proofs.Places.{exp_in, second_is}
use Rattle.sky_machine_open.proofs.chain.open_logic.Goals as goal

pub after_exp-second-requires : goal.after_exp-second-requires
after_exp-second-requires c =
    let e = c.args.first.now in
    let here = c.inside.ensures.here (exp_node (Exp.logic (stops_at c.args.stop) e (ands_view c.args.rest.now))) c.requires.0 in
    exp_in (λ i. node_at c.args.code.now i) e (exp_view c.get.result.now) (c.args.node + 1) c.inside.result c.get.ensures here c.requires.1

pub open_join-requires-clause-has : goal.open_join-requires-clause-has
open_join-requires-clause-has c =
    let e = c.args.first.now in
    let here = c.inside.ensures.here (exp_node (Exp.logic (stops_at c.args.stop) e (ands_view c.args.rest.now))) c.requires.0 in
    let second = second_is e (exp_view c.get.result.now) c.args.node c.inside.result c.after_exp-second.result c.get.ensures here
    c.after_exp-second.ensures in
    subst (HasAnds (λ i. node_at c.args.code.now i) (ands_view c.args.rest.now)) (sym second) c.requires.2
