use Rattle.std.proofs.Common.{◌+◌, sym, ap, ◌∙◌}
use Rattle.sky_base.specs.TreeView.{exp_view}
use Rattle.sky_base.specs.Res.{just_part}
use Rattle.sky_base.specs.Eval.{eval, after, body_at}
use Rattle.sky_base_law.specs.Nodes.{node_at}
use Rattle.sky_machine_entries.specs.Config.{room, rest_in}
use Rattle.sky_machine_entries.specs.Entries.{forms}
use Rattle.sky_machine_stmts.proofs.Blocks.{part_begun, exp_inside, exp_inside_has}
use Rattle.sky_machine_stmts.proofs.stmt.begin_just.Goals as goal

pub returns-clause-same : goal.returns-clause-same
returns-clause-same c = λ w.
    let e = exp_view c.args.inner.now in
    let en = just_part c.args.node in
    let st = c.visit.new.state in
    let old = c.args.entries.now.items in
    let now = room w (forms old) in
    let inside = room w (forms c.push.new.entries.items) in
    let is = exp_inside (λ i. node_at c.args.code.now i) e c.args.node c.inside.result c.inside.ensures.some c.requires.has.1 in
    c.in_ok-push.ensures.rest w (eval w (body_at w inside) e c.inside.result st)
    ∙ ap (rest_in w old) (part_begun w now inside (c.in_ok-push.ensures.room w) e (c.args.node + 1) c.inside.result st en
    (after w (body_at w now) en) is ∙ sym (c.visit.ensures.more c.if-not-visit.false _))

pub returns-clause-goes : goal.returns-clause-goes
returns-clause-goes c =
    exp_inside_has (λ i. node_at c.args.code.now i) (exp_view c.args.inner.now) c.args.node c.inside.result c.inside.ensures.some c.requires.has.1

pub returns-clause-ready : goal.returns-clause-ready
returns-clause-ready c = c.in_ok-push.ensures.ready c.args.code.now c.requires.ready tt
