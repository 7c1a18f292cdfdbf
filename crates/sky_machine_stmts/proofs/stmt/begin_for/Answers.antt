use Rattle.std.proofs.Common.{◌+◌, ℕ, sym, ap, ◌∙◌, subst}
use Rattle.sky_base.specs.Tree.{nodes}
use Rattle.sky_base.specs.TreeView.{at, exp_view}
use Rattle.sky_base.specs.Res.{for_list, then_do}
use Rattle.sky_base.specs.Eval.{eval, after, body_at}
use Rattle.sky_base_law.specs.Nodes.{node_at}
use Rattle.sky_machine_entries.specs.Config.{room, rest_in}
use Rattle.sky_machine_entries.specs.Entries.{forms}
use Rattle.sky_machine_entries.specs.Ready.{HasBlock}
use Rattle.sky_machine_stmts.proofs.Blocks.{part_begun, exp_inside, exp_inside_has}
use Rattle.sky_machine_stmts.proofs.stmt.begin_for.Goals as goal

pub after_exp-block-requires : goal.after_exp-block-requires
after_exp-block-requires c =
    exp_inside_has (λ i. node_at c.args.code.now i) (exp_view c.args.list.now) c.args.node c.inside-part.result c.inside-part.ensures.some
    c.requires.has.1

pub returns-clause-same : goal.returns-clause-same
returns-clause-same c = λ w.
    let e = exp_view c.args.list.now in
    let n = c.args.node in
    let en = λ (m : ℕ). for_list n m (at c.args.line c.args.col) c.args.name.now c.args.body.now in
    let st = c.visit.new.state in
    let old = c.args.entries.now.items in
    let now = room w (forms old) in
    let inside = room w (forms c.push.new.entries.items) in
    let is = exp_inside (λ k. node_at c.args.code.now k) e n c.inside-part.result c.inside-part.ensures.some c.requires.has.1 in
    let next = c.after_exp-block.ensures ∙ ap (λ m. m + nodes e) is in
    c.in_ok-push.ensures.rest w (eval w (body_at w inside) e c.inside-part.result st)
    ∙ ap (rest_in w old) (part_begun w now inside (c.in_ok-push.ensures.room w) e (n + 1) c.inside-part.result st
    (en c.after_exp-block.result) (after w (body_at w now) (en c.after_exp-block.result)) is
    ∙ ap (λ m. then_do (eval w (body_at w now) e (n + 1) st) (en m) (after w (body_at w now) (en m))) next
    ∙ sym (c.visit.ensures.more c.if-not-visit.false _))

pub returns-clause-ready : goal.returns-clause-ready
returns-clause-ready c =
    let e = exp_view c.args.list.now in
    let is = exp_inside (λ k. node_at c.args.code.now k) e c.args.node c.inside-part.result c.inside-part.ensures.some c.requires.has.1 in
    let next = c.after_exp-block.ensures ∙ ap (λ m. m + nodes e) is in
    c.in_ok-push.ensures.ready c.args.code.now c.requires.ready
    (subst (λ m. HasBlock (λ k. node_at c.args.code.now k) m c.args.body.now) (sym next) (c.requires.has.2, c.requires.has.3))

pub returns-clause-goes : goal.returns-clause-goes
returns-clause-goes c =
    exp_inside_has (λ i. node_at c.args.code.now i) (exp_view c.args.list.now) c.args.node c.inside-part.result c.inside-part.ensures.some
    c.requires.has.1
