use Rattle.std.proofs.Common.{◌+◌, sym, subst}
use Rattle.sky_base.specs.Tree.{Exp}
use Rattle.sky_base.specs.TreeView.{exp_view, steps_view}
use Rattle.sky_base_law.specs.Nodes.{node_at}
use Rattle.sky_base_law.specs.Opened.{exp_node, HasSteps}
use Rattle.sky_machine_open.proofs.Places.{exp_in, second_is}
use Rattle.sky_frozen_fits.proofs.exprs.postfix_row.Goals as goal

pub after_exp-second-requires : goal.after_exp-second-requires
after_exp-second-requires c =
    let e = c.args.first.now in
    let here = c.inside-in_default.ensures.here (exp_node (Exp.postfix e (steps_view c.args.rest.now))) c.requires.0 in
    exp_in (λ i. node_at c.args.code.now i) e (exp_view c.get.result.now) (c.args.number + 1) c.inside-in_default.result c.get.ensures here
    c.requires.1

pub spot_row-requires-clause-has : goal.spot_row-requires-clause-has
spot_row-requires-clause-has c =
    let e = c.args.first.now in
    let here = c.inside-in_default.ensures.here (exp_node (Exp.postfix e (steps_view c.args.rest.now))) c.requires.0 in
    let second = second_is e (exp_view c.get.result.now) c.args.number c.inside-in_default.result c.after_exp-second.result c.get.ensures here
    c.after_exp-second.ensures in
    subst (HasSteps (λ i. node_at c.args.code.now i) (steps_view c.args.rest.now)) (sym second) c.requires.2
