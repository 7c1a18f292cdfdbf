use Rattle.std.proofs.Common.{◌+◌, sym, ap, ◌∙◌, subst}
use Rattle.sky_base.specs.Tree.{nodes}
use Rattle.sky_base.specs.TreeView.{at, exp_view}
use Rattle.sky_base.specs.Eval.{go_while}
use Rattle.sky_base_law.specs.Nodes.{node_at}
use Rattle.sky_machine_entries.specs.Config.{body_in, rest_in}
use Rattle.sky_machine_entries.specs.Entries.{forms}
use Rattle.sky_machine_entries.specs.Ready.{HasBlock}
use Rattle.sky_machine_stmts.proofs.Blocks.{exp_inside, exp_inside_has}
use Rattle.sky_machine_stmts.proofs.stmt.begin_while.Goals as goal

pub after_exp-block-requires : goal.after_exp-block-requires
after_exp-block-requires c =
    exp_inside_has (λ i. node_at c.args.code.now i) (exp_view c.args.test.now) c.args.node c.inside.result c.inside.ensures.some c.requires.has.1

pub turn-requires-clause-entry : goal.turn-requires-clause-entry
turn-requires-clause-entry c =
    let e = exp_view c.args.test.now in
    let is = exp_inside (λ k. node_at c.args.code.now k) e c.args.node c.inside.result c.inside.ensures.some c.requires.has.1 in
    let next = c.after_exp-block.ensures ∙ ap (λ m. m + nodes e) is in
    (c.requires.has.1, subst (λ m. HasBlock (λ k. node_at c.args.code.now k) m c.args.body.now) (sym next) (c.requires.has.2, c.requires.has.3))

pub returns-clause-same : goal.returns-clause-same
returns-clause-same c = λ w.
    let e = exp_view c.args.test.now in
    let n = c.args.node in
    let p = at c.args.line c.args.col in
    let st = c.visit.new.state in
    let old = c.args.entries.now.items in
    let is = exp_inside (λ k. node_at c.args.code.now k) e n c.inside.result c.inside.ensures.some c.requires.has.1 in
    let next = c.after_exp-block.ensures ∙ ap (λ m. m + nodes e) is in
    c.in_ok-control.ensures.same w st c.visit.ensures.within
    ∙ ap (rest_in w old) (ap (λ m. go_while w (body_in w (forms old)) n m p e c.args.body.now st) next
    ∙ sym (c.visit.ensures.more c.if-not-visit.false _))
