use Rattle.std.proofs.Common.{◌+◌, ap, ◌∙◌}
use Rattle.sky_base.specs.TreeView.{exp_view}
use Rattle.sky_base.specs.Res.{parens_in}
use Rattle.sky_base.specs.Eval.{eval, after, body_at}
use Rattle.sky_base_law.specs.Nodes.{node_at}
use Rattle.sky_machine_entries.specs.Config.{room, rest_in}
use Rattle.sky_machine_entries.specs.Entries.{forms}
use Rattle.sky_machine_exprs.proofs.Firsts.{first_begun, first_at, first_has}
use Rattle.sky_machine_exprs.proofs.first.begin_parens.Goals as goal

pub returns-clause-same : goal.returns-clause-same
returns-clause-same c = λ w st.
    let n = c.args.node in
    let e = c.args.inner.now in
    let en = parens_in n in
    let old = c.args.entries.now.items in
    let now = room w (forms old) in
    let inside = room w (forms c.push.new.entries.items) in
    let is = first_at (λ i. node_at c.args.code.now i) e n c.inside.result c.inside.ensures.some c.requires.has.1 in
    c.in_ok-push.ensures.rest w (eval w (body_at w inside) (exp_view c.get.result.now) c.inside.result st)
    ∙ ap (rest_in w old) (first_begun w now inside e (exp_view c.get.result.now) (n + 1) c.inside.result st en (after w (body_at w now) en)
    (c.in_ok-push.ensures.room w) c.get.ensures is)

pub returns-clause-ready : goal.returns-clause-ready
returns-clause-ready c = c.in_ok-push.ensures.ready c.args.code.now c.requires.ready tt

pub returns-clause-goes : goal.returns-clause-goes
returns-clause-goes c =
    first_has (λ i. node_at c.args.code.now i) c.args.inner.now (exp_view c.get.result.now) c.args.node c.inside.result c.get.ensures
    c.inside.ensures.some c.requires.has.1
