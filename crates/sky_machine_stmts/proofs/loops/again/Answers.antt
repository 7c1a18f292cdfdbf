use Rattle.std.proofs.Common.{◌+◌, sym, ap, ◌∙◌, subst}
use Rattle.sky_base.specs.TreeView.{at, exp_view}
use Rattle.sky_base.specs.Res.{repeat_body}
use Rattle.sky_base.specs.Eval.{eval_block, after, body_at}
use Rattle.sky_base_law.specs.Opened.{block_node}
use Rattle.sky_base_law.specs.Nodes.{node_at}
use Rattle.sky_machine_entries.specs.Config.{room, rest_in}
use Rattle.sky_machine_entries.specs.Entries.{forms}
use Rattle.sky_machine_entries.specs.Ready.{HasBlock}
use Rattle.sky_machine_stmts.proofs.Blocks.{block_begun}
use Rattle.sky_machine_stmts.proofs.Turns.{repeat_turn}
use Rattle.sky_machine_stmts.proofs.loops.again.Goals as goal

pub open_block-requires-clause-has : goal.open_block-requires-clause-has
open_block-requires-clause-has c =
    let t = c.args.turn in
    let is = c.inside-block.ensures.some (block_node t.body.now) c.requires.entry.1.0 in
    subst (λ m. HasBlock (λ i. node_at c.args.code.now i) m t.body.now) (sym is) c.requires.entry.1

pub returns-clause-same : goal.returns-clause-same
returns-clause-same c = λ w st h.
    let t = c.args.turn in
    let e = exp_view t.test.now in
    let p = at t.line t.col in
    let b = t.body.now in
    let old = c.args.entries.now.items in
    let now = room w (forms old) in
    let inside = room w (forms c.push.new.entries.items) in
    let is = c.inside-block.ensures.some (block_node b) c.requires.entry.1.0 in
    c.in_ok-control.ensures.same w st ∙ c.in_ok-push.ensures.rest w (eval_block w (body_at w inside) b c.inside-block.result st)
    ∙ ap (rest_in w old) (block_begun w now inside (c.in_ok-push.ensures.room w) b (t.node + 1) c.inside-block.result st
    (repeat_body t.node t.test_at p b e) (after w (body_at w now) (repeat_body t.node t.test_at p b e)) is
    ∙ repeat_turn w now t.node t.test_at p e b st h)
