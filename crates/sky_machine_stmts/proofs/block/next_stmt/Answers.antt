use Rattle.std.proofs.Common.{◌+◌, refl, ap, ◌∙◌}
use Rattle.sky_base.specs.StmtView.{stm_view, stms_view}
use Rattle.sky_base.specs.Eval.{eval_stm, body_at}
use Rattle.sky_base_law.specs.Nodes.{node_at}
use Rattle.sky_machine_entries.specs.Config.{room, rest_in}
use Rattle.sky_machine_entries.specs.Entries.{forms}
use Rattle.sky_machine_stmts.proofs.Blocks.{stm_begun, stm_ready}
use Rattle.sky_machine_stmts.proofs.block.next_stmt.Goals as goal

pub returns-in_ok-push-in-Some-clause-same : goal.returns-in_ok-push-in-Some-clause-same
returns-in_ok-push-in-Some-clause-same c = λ w st.
    let b = c.args.block in
    let a = stm_view c.in-Some.first.now in
    let old = c.args.entries.now.items in
    let now = room w (forms old) in
    let inside = room w (forms c.push.new.entries.items) in
    c.in_ok-push-in-Some.ensures.rest w (eval_stm w (body_at w inside) a b.next st)
    ∙ ap (rest_in w old) (stm_begun w now inside (c.in_ok-push-in-Some.ensures.room w) b.node b.step (b.step + 1) b.next
    c.after_stmt-after.result a (stms_view c.in-Some.rest.now) (stms_view b.rest.now) st refl c.after_stmt-after.ensures
    (ap stms_view c.in-Some.ensures.cases.0))

pub returns-in_ok-push-in-Some-clause-ready : goal.returns-in_ok-push-in-Some-clause-ready
returns-in_ok-push-in-Some-clause-ready c =
    let b = c.args.block in
    c.in_ok-push-in-Some.ensures.ready c.args.code.now c.requires.ready
    (stm_ready (λ i. node_at c.args.code.now i) b.step b.next c.after_stmt-after.result (stm_view c.in-Some.first.now)
    (stms_view c.in-Some.rest.now) (stms_view b.rest.now) (ap stms_view c.in-Some.ensures.cases.0) c.requires.has c.after_stmt-after.ensures
    c.requires.step)
