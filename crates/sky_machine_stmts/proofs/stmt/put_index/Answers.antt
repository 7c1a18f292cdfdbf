use Rattle.std.proofs.Common.{refl, ap, ◌∙◌}
use Rattle.sky_base.specs.View.{view}
use Rattle.sky_base.specs.TreeView.{at, exp_view}
use Rattle.sky_base.specs.Res.{put_value}
use Rattle.sky_base.specs.Eval.{eval, after, body_at}
use Rattle.sky_machine_entries.specs.Config.{room, rest_in}
use Rattle.sky_machine_entries.specs.Entries.{forms}
use Rattle.sky_machine_stmts.proofs.Blocks.{part_begun}
use Rattle.sky_machine_stmts.proofs.stmt.put_index.Goals as goal

pub returns-clause-same : goal.returns-clause-same
returns-clause-same c = λ w st.
    let p = c.args.put in
    let e = exp_view p.value.now in
    let en = put_value p.node p.name.now (at p.name_line p.name_col) (at p.line p.col) (view c.args.v) in
    let old = c.args.entries.now.items in
    let now = room w (forms old) in
    let inside = room w (forms c.push.new.entries.items) in
    c.in_ok-push.ensures.rest w (eval w (body_at w inside) e p.next st)
    ∙ ap (rest_in w old) (part_begun w now inside (c.in_ok-push.ensures.room w) e p.next p.next st en (after w (body_at w now) en) refl)

pub returns-clause-ready : goal.returns-clause-ready
returns-clause-ready c = c.in_ok-push.ensures.ready c.args.code.now c.requires.ready c.requires.kept
