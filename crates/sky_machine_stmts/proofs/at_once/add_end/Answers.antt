use Rattle.std.proofs.Common.{◌+◌, refl, ◌∙◌}
use Rattle.sky_base.specs.View.{view}
use Rattle.sky_base.specs.TreeView.{at}
use Rattle.sky_base.specs.Res.{End, add_part}
use Rattle.sky_base.specs.Eval.{after}
use Rattle.sky_machine_exprs.specs.AtOnce.{simple_view}
use Rattle.sky_machine_stmts.proofs.Quick.{part_ended}
use Rattle.sky_machine_stmts.proofs.at_once.add_end.Goals as goal

pub returns-in_ok-end-in-Got-clause-same : goal.returns-in_ok-end-in-Got-clause-same
returns-in_ok-end-in-Got-clause-same c = λ w body h.
    let e = simple_view c.args.value.now in
    let n = c.args.to.node in
    let en = add_part c.args.to.node c.args.to.name.now (at c.args.to.name_line c.args.to.name_col) (at c.args.to.line c.args.to.col) in
    let got = rw c.in-Got.is at (c.in_ok-end.ensures.same w body (n + 1) h) in
    c.visit.ensures.more c.if-not-visit.false _
    ∙ part_ended w body e e (n + 1) c.visit.new.state c.simple_end.new.state (End.got (view c.in-Got.v)) en (after w body en) refl got
    ∙ c.in_ok-end-in-Got.ensures.same w body
