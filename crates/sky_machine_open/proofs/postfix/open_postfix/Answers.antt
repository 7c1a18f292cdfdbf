use Rattle.std.proofs.Common.{◌+◌, sym, subst}
use Rattle.sky_base.specs.Tree.{Exp}
use Rattle.sky_base.specs.TreeView.{exp_view, steps_view}
use Rattle.sky_base_law.specs.Nodes.{node_at}
use Rattle.sky_base_law.specs.Opened.{exp_node, HasSteps}
use Rattle.sky_machine_open.proofs.Places.{exp_in, second_is}
use Rattle.sky_machine_open.proofs.postfix.open_postfix.Goals as goal

pub after_exp-second-requires : goal.after_exp-second-requires
after_exp-second-requires c =
    let e = c.args.first.now in
    let here = c.inside.ensures.here (exp_node (Exp.postfix e (steps_view c.args.rest.now))) c.requires.has.0 in
    exp_in (λ i. node_at c.args.code.now i) e (exp_view c.get.result.now) (c.args.node + 1) c.inside.result c.get.ensures here c.requires.has.1

pub skip_spots-spot-requires : goal.skip_spots-spot-requires
skip_spots-spot-requires c =
    let e = c.args.first.now in
    let here = c.inside.ensures.here (exp_node (Exp.postfix e (steps_view c.args.rest.now))) c.requires.has.0 in
    let second = second_is e (exp_view c.get.result.now) c.args.node c.inside.result c.after_exp-second.result c.get.ensures here
    c.after_exp-second.ensures in
    subst (HasSteps (λ i. node_at c.args.code.now i) (steps_view c.args.rest.now)) (sym second) c.requires.has.2
