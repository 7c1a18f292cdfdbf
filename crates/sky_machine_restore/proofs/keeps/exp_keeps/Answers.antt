use Rattle.std.proofs.Common.{◌≡◌, sym, ap, ◌∙◌, subst}
use Rattle.sky_base.specs.Tree.{Exp}
use Rattle.sky_base.specs.TreeView.{exp_view, steps_view}
use Rattle.sky_machine_code.specs.Shapes.{shape_view}
use Rattle.sky_state.specs.Table.{keeps, exp_row}
use Rattle.sky_machine_restore.proofs.KeptCounts.{postfix_keeps}
use Rattle.sky_machine_restore.proofs.keeps.exp_keeps.Goals as goal

pub returns-else-step-lt2 : goal.returns-else-step-lt2
returns-else-step-lt2 c =
    let e = c.in-Postfix.first.now in
    let ss = steps_view c.in-Postfix.rest.now in
    let is : Exp.postfix e ss ≡ exp_view c.args.e.now = ap shape_view (sym c.in-Postfix.is) ∙ c.shape_of.ensures in
    λ s. subst (λ x. c.spot_keeps.result ≡ keeps (exp_row x c.args.number c.args.step)) is
    (postfix_keeps e ss c.args.number c.args.step c.spot_keeps.result c.if-step-lt2.false c.spot_keeps.ensures)
