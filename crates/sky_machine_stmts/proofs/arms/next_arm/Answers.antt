use Rattle.std.proofs.Common.{◌≡◌, ◌+◌, refl, ap, ◌∙◌, subst, arith}
use Rattle.sky_base.specs.Tree.{block_nodes, arms_nodes}
use Rattle.sky_base.specs.TreeView.{at, exp_view}
use Rattle.sky_base.specs.StmtView.{arms_view}
use Rattle.sky_base.specs.Eval.{eval, body_at}
use Rattle.sky_base_law.specs.Nodes.{node_at}
use Rattle.sky_machine_entries.specs.Config.{room, rest_in}
use Rattle.sky_machine_entries.specs.Entries.{last_block, forms}
use Rattle.sky_machine_entries.specs.Ready.{HasBlock}
use Rattle.sky_machine_stmts.proofs.Blocks.{arm_begun, arm_ready, arms_zero}
use Rattle.sky_machine_stmts.proofs.arms.next_arm.Goals as goal

pub open_block-requires-clause-has : goal.open_block-requires-clause-has
open_block-requires-clause-has c =
    let h = rw c.in-Some-otherwise.is at c.requires.other in
    let q : c.args.choice.next + arms_nodes (arms_view c.args.choice.arms.now) ≡ c.args.choice.next =
    omega (arith, arms_zero c.args.choice.arms.now c.in-None.ensures.cases) in
    subst (λ m. HasBlock (λ i. node_at c.args.code.now i) m c.in-Some-otherwise.block.now) q h

pub returns-in_ok-push-in-Some-clause-same : goal.returns-in_ok-push-in-Some-clause-same
returns-in_ok-push-in-Some-clause-same c = λ w st.
    let k = c.args.choice in
    let a = c.in-Some.arm.now in
    let e = exp_view a.test in
    let arms = arms_view c.in-Some.arms.now in
    let block = c.after_exp-block.result in
    let old = c.args.entries.now.items in
    let now = room w (forms old) in
    let inside = room w (forms c.push.new.entries.items) in
    c.in_ok-push-in-Some.ensures.rest w (eval w (body_at w inside) e k.next st)
    ∙ ap (rest_in w old) (arm_begun w now inside (c.in_ok-push-in-Some.ensures.room w) k.node k.step k.next block
    (k.next + arms_nodes (arms_view k.arms.now)) (block + block_nodes a.body + arms_nodes arms) (at a.line a.col) e a.body arms
    (arms_view k.arms.now) (last_block k.otherwise) st c.after_exp-block.ensures (ap arms_view c.in-Some.ensures.cases.0) refl refl)

pub returns-in_ok-push-in-Some-clause-ready : goal.returns-in_ok-push-in-Some-clause-ready
returns-in_ok-push-in-Some-clause-ready c =
    let k = c.args.choice in
    let a = c.in-Some.arm.now in
    let arms = arms_view c.in-Some.arms.now in
    let block = c.after_exp-block.result in
    c.in_ok-push-in-Some.ensures.ready c.args.code.now c.requires.ready
    (arm_ready (λ i. node_at c.args.code.now i) k.step k.next block (block + block_nodes a.body + arms_nodes arms) (at a.line a.col)
    (exp_view a.test) a.body arms (arms_view k.arms.now) (last_block k.otherwise) c.after_exp-block.ensures
    (ap arms_view c.in-Some.ensures.cases.0) refl c.requires.step c.requires.arms c.requires.other)
