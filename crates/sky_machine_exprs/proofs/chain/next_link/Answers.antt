use Rattle.std.proofs.Common.{ap, ◌∙◌}
use Rattle.sky_base.specs.View.{view}
use Rattle.sky_base.specs.TreeView.{at, exp_view}
use Rattle.sky_base.specs.Eval.{eval, body_at}
use Rattle.sky_base_law.specs.Nodes.{node_at}
use Rattle.sky_machine_code.specs.Shapes.{op_view, operands_view}
use Rattle.sky_machine_entries.specs.Config.{room, rest_in}
use Rattle.sky_machine_entries.specs.Entries.{forms}
use Rattle.sky_machine_exprs.proofs.Chains.{link_begun, link_ready, link_has}
use Rattle.sky_machine_exprs.proofs.chain.next_link.Goals as goal

pub after_exp-after-requires : goal.after_exp-after-requires
after_exp-after-requires c =
    link_has (λ i. node_at c.args.code.now i) c.args.chain.next _ _ _ _ _ c.in-Some.ensures c.requires.links

pub returns-in_ok-push-in-Some-clause-same : goal.returns-in_ok-push-in-Some-clause-same
returns-in_ok-push-in-Some-clause-same c = λ w st.
    let k = c.args.chain in
    let o = c.in-Some.operand in
    let old = c.args.entries.now.items in
    let new = c.push.new.entries.items in
    let now = room w (forms old) in
    let inside = room w (forms new) in
    c.in_ok-push-in-Some.ensures.rest w (eval w (body_at w inside) (exp_view o.operand.now) k.next st)
    ∙ ap (rest_in w old) (link_begun w now inside (c.in_ok-push-in-Some.ensures.room w) k.node k.step k.next c.after_exp-after.result
    (op_view o.op) (at o.line o.col) (view k.value) (exp_view o.operand.now) (operands_view o.rest) (operands_view k.rest) st
    c.after_exp-after.ensures c.in-Some.ensures)

pub returns-in_ok-push-in-Some-clause-ready : goal.returns-in_ok-push-in-Some-clause-ready
returns-in_ok-push-in-Some-clause-ready c =
    c.in_ok-push-in-Some.ensures.ready c.args.code.now c.requires.ready
    (link_ready (λ i. node_at c.args.code.now i) c.args.chain.step c.args.chain.next c.after_exp-after.result _ _ _ _ _ _ c.in-Some.ensures
    c.requires.links c.after_exp-after.ensures c.requires.step c.requires.kept)

pub returns-in_ok-push-in-Some-clause-goes : goal.returns-in_ok-push-in-Some-clause-goes
returns-in_ok-push-in-Some-clause-goes c =
    link_has (λ i. node_at c.args.code.now i) c.args.chain.next _ _ _ _ _ c.in-Some.ensures c.requires.links
