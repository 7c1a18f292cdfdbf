use Rattle.std.proofs.Common.{◌+◌, refl, sym, subst}
use Rattle.sky_base.specs.TreeView.{exp_view}
use Rattle.sky_base_law.specs.Nodes.{node_at}
use Rattle.sky_base_law.specs.Opened.{HasArms}
use Rattle.sky_machine_open.proofs.Places.{exp_in}
use Rattle.sky_frozen_fits.proofs.stmts.stm_row.Goals as goal

pub after_exp-requires : goal.after_exp-requires
after_exp-requires c =
    let has = rw c.in-Put.is at c.requires in
    exp_in (λ i. node_at c.args.code.now i) (exp_view c.in-Put.at) (exp_view c.in-Put.at) (c.args.number + 1) c.inside-inside.result refl
    (c.inside-inside.ensures.here _ has.0) has.1

pub arm_row-requires : goal.arm_row-requires
arm_row-requires c =
    let has = rw c.in-If.is at c.requires in
    let here = c.inside-inside.ensures.here _ has.0 in
    subst (λ x. HasArms (λ i. node_at c.args.code.now i) x c.inside-inside.result) (sym c.as_slice.ensures)
    (subst (HasArms (λ i. node_at c.args.code.now i) c.in-If.arms) (sym here) has.1)

pub after_exp-requires-in-While : goal.after_exp-requires-in-While
after_exp-requires-in-While c =
    let has = rw c.in-While.is at c.requires in
    exp_in (λ i. node_at c.args.code.now i) (exp_view c.in-While.test) (exp_view c.in-While.test) (c.args.number + 1) c.inside-inside.result refl
    (c.inside-inside.ensures.here _ has.0) has.1

pub after_exp-requires-in-For : goal.after_exp-requires-in-For
after_exp-requires-in-For c =
    let has = rw c.in-For.is at c.requires in
    exp_in (λ i. node_at c.args.code.now i) (exp_view c.in-For.list) (exp_view c.in-For.list) (c.args.number + 1) c.inside-inside.result refl
    (c.inside-inside.ensures.here _ has.0) has.1
