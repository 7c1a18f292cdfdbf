use Rattle.std.proofs.Common.{◌+◌, refl, sym, subst}
use Rattle.sky_base.specs.TreeView.{exp_view}
use Rattle.sky_base_law.specs.Nodes.{node_at}
use Rattle.sky_base_law.specs.Opened.{HasArms}
use Rattle.sky_machine_open.proofs.Places.{exp_in}
use Rattle.sky_machine_open.proofs.stmt.open_stmt.Goals as goal

pub after_exp-next-requires : goal.after_exp-next-requires
after_exp-next-requires c =
    let has = rw c.in-Put.is at c.requires in
    exp_in (λ i. node_at c.args.code.now i) (exp_view c.in-Put.at) (exp_view c.in-Put.at) (c.args.node + 1) c.inside-inside.result refl
    (c.inside-inside.ensures.here _ has.0) has.1

pub open_arm-requires-clause-has : goal.open_arm-requires-clause-has
open_arm-requires-clause-has c =
    let has = rw c.in-If.is at c.requires in
    let here = c.inside-inside.ensures.here _ has.0 in
    subst (λ x. HasArms (λ i. node_at c.args.code.now i) x c.inside-inside.result) (sym c.as_slice.ensures)
    (subst (HasArms (λ i. node_at c.args.code.now i) c.in-If.arms) (sym here) has.1)

pub after_exp-block-requires : goal.after_exp-block-requires
after_exp-block-requires c =
    let has = rw c.in-While.is at c.requires in
    exp_in (λ i. node_at c.args.code.now i) (exp_view c.in-While.test) (exp_view c.in-While.test) (c.args.node + 1) c.inside-inside.result refl
    (c.inside-inside.ensures.here _ has.0) has.1

pub after_exp-block-requires-in-For : goal.after_exp-block-requires-in-For
after_exp-block-requires-in-For c =
    let has = rw c.in-For.is at c.requires in
    exp_in (λ i. node_at c.args.code.now i) (exp_view c.in-For.list) (exp_view c.in-For.list) (c.args.node + 1) c.inside-inside.result refl
    (c.inside-inside.ensures.here _ has.0) has.1
