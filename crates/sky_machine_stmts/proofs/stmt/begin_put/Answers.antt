use Rattle.std.proofs.Common.{◌+◌, ℕ, sym, ap, ◌∙◌, subst}
use Rattle.sky_base.specs.Tree.{nodes}
use Rattle.sky_base.specs.TreeView.{at, exp_view}
use Rattle.sky_base.specs.Res.{put_index, then_do}
use Rattle.sky_base.specs.Eval.{eval, after, body_at}
use Rattle.sky_base_law.specs.Opened.{HasExp}
use Rattle.sky_base_law.specs.Nodes.{node_at}
use Rattle.sky_machine_entries.specs.Config.{room, rest_in}
use Rattle.sky_machine_entries.specs.Entries.{forms}
use Rattle.sky_machine_stmts.proofs.Blocks.{part_begun, exp_inside, exp_inside_has}
use Rattle.sky_machine_stmts.proofs.stmt.begin_put.Goals as goal

pub after_exp-requires : goal.after_exp-requires
after_exp-requires c =
    exp_inside_has (λ i. node_at c.args.code.now i) (exp_view c.args.index.now) c.args.put.node c.inside-part.result c.inside-part.ensures.some
    c.requires.has.1

pub returns-clause-same : goal.returns-clause-same
returns-clause-same c = λ w.
    let p = c.args.put in
    let i = exp_view c.args.index.now in
    let e = exp_view p.value.now in
    let en = λ (m : ℕ). put_index p.node m p.name.now (at p.name_line p.name_col) (at p.line p.col) e in
    let st = c.visit.new.state in
    let old = c.args.entries.now.items in
    let now = room w (forms old) in
    let inside = room w (forms c.push.new.entries.items) in
    let is = exp_inside (λ k. node_at c.args.code.now k) i p.node c.inside-part.result c.inside-part.ensures.some c.requires.has.1 in
    let next = c.after_exp.ensures ∙ ap (λ m. m + nodes i) is in
    c.in_ok-push.ensures.rest w (eval w (body_at w inside) i c.inside-part.result st)
    ∙ ap (rest_in w old) (part_begun w now inside (c.in_ok-push.ensures.room w) i (p.node + 1) c.inside-part.result st
    (en c.after_exp.result) (after w (body_at w now) (en c.after_exp.result)) is
    ∙ ap (λ m. then_do (eval w (body_at w now) i (p.node + 1) st) (en m) (after w (body_at w now) (en m))) next
    ∙ sym (c.visit.ensures.more c.if-not-visit.false _))

pub returns-clause-ready : goal.returns-clause-ready
returns-clause-ready c =
    let p = c.args.put in
    let i = exp_view c.args.index.now in
    let is = exp_inside (λ k. node_at c.args.code.now k) i p.node c.inside-part.result c.inside-part.ensures.some c.requires.has.1 in
    let next = c.after_exp.ensures ∙ ap (λ m. m + nodes i) is in
    c.in_ok-push.ensures.ready c.args.code.now c.requires.ready
    (subst (HasExp (λ k. node_at c.args.code.now k) (exp_view p.value.now)) (sym next) c.requires.has.2)

pub returns-clause-goes : goal.returns-clause-goes
returns-clause-goes c =
    exp_inside_has (λ i. node_at c.args.code.now i) (exp_view c.args.index.now) c.args.put.node c.inside-part.result c.inside-part.ensures.some
    c.requires.has.1
