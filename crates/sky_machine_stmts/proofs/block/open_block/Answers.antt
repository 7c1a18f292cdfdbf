use Rattle.std.proofs.Common.{sym, ap, ◌∙◌, subst}
use Rattle.sky_base.specs.Tree.{Stms}
use Rattle.sky_base.specs.Eval.{eval_stms}
use Rattle.sky_base_law.specs.Nodes.{node_at}
use Rattle.sky_base_law.specs.Opened.{HasStms}
use Rattle.sky_machine_entries.specs.Config.{room, body_in, rest_in}
use Rattle.sky_machine_entries.specs.Entries.{forms}
use Rattle.sky_machine_stmts.proofs.Blocks.{stms_inside, stms_inside_has}
use Rattle.sky_machine_stmts.proofs.block.open_block.Goals as goal

pub next_stmt-requires-clause-has : goal.next_stmt-requires-clause-has
next_stmt-requires-clause-has c =
    let sc = c.args.code.now in
    subst (λ (b : Stms). HasStms (λ i. node_at sc i) b c.inside-next.result) (sym c.as_slice.ensures)
    (stms_inside_has (λ i. node_at sc i) c.args.block.now c.args.node c.inside-next.result c.inside-next.ensures.some c.requires.has.1)

pub returns-clause-same : goal.returns-clause-same
returns-clause-same c = λ w st.
    let sc = c.args.code.now in
    let old = c.args.entries.now.items in
    c.in_ok-control.ensures.same w st ∙ ap (rest_in w old)
    (ap (λ b. eval_stms w (body_in w (forms old)) b c.args.node 0 c.inside-next.result st) c.as_slice.ensures
    ∙ stms_inside (λ i. node_at sc i) w (room w (forms old)) c.args.block.now c.args.node c.inside-next.result st c.inside-next.ensures.some
    c.requires.has.1)
