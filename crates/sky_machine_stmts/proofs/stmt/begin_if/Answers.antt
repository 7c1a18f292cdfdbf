use Rattle.std.proofs.Common.{◌+◌, sym, ap, ◌∙◌, subst}
use Rattle.sky_base.specs.Tree.{Arms, arms_nodes}
use Rattle.sky_base.specs.Eval.{eval_arms, eval_else}
use Rattle.sky_base_law.specs.Opened.{HasArms, HasElse}
use Rattle.sky_base_law.specs.Nodes.{node_at}
use Rattle.sky_machine_entries.specs.Config.{room, body_in, rest_in}
use Rattle.sky_machine_entries.specs.Entries.{last_block, forms}
use Rattle.sky_machine_stmts.proofs.Choices.{begins, begins_has}
use Rattle.sky_machine_stmts.proofs.stmt.begin_if.Goals as goal

pub next_arm-requires-clause-step : goal.next_arm-requires-clause-step
next_arm-requires-clause-step c = c.inside.ensures.positive

pub next_arm-requires-clause-arms : goal.next_arm-requires-clause-arms
next_arm-requires-clause-arms c =
    let sc = c.args.code.now in
    subst (λ (xs : Arms). HasArms (λ i. node_at sc i) xs c.inside.result) (sym c.as_slice.ensures)
    (begins_has (λ i. node_at sc i) c.args.node c.inside.result c.args.arms.now (last_block c.args.otherwise) c.inside.ensures.some
    c.requires.has.1 c.requires.has.2).0

pub next_arm-requires-clause-other : goal.next_arm-requires-clause-other
next_arm-requires-clause-other c =
    let sc = c.args.code.now in
    subst (λ (xs : Arms). HasElse (λ i. node_at sc i) (last_block c.args.otherwise) (c.inside.result + arms_nodes xs)) (sym c.as_slice.ensures)
    (begins_has (λ i. node_at sc i) c.args.node c.inside.result c.args.arms.now (last_block c.args.otherwise) c.inside.ensures.some
    c.requires.has.1 c.requires.has.2).1

pub returns-clause-same : goal.returns-clause-same
returns-clause-same c = λ w.
    let sc = c.args.code.now in
    let st = c.visit.new.state in
    let old = c.args.entries.now.items in
    let n = c.args.node in
    let r = c.inside.result in
    let els = last_block c.args.otherwise in
    c.in_ok-control.ensures.same w st ∙ ap (rest_in w old)
    (ap (λ xs. eval_arms w (body_in w (forms old)) xs n 1 r (r + arms_nodes xs) els
    (λ t. eval_else w (body_in w (forms old)) els (r + arms_nodes xs) t) st) c.as_slice.ensures
    ∙ (begins (λ i. node_at sc i) w (room w (forms old)) n r c.args.arms.now els c.inside.ensures.some c.requires.has.1
    c.requires.has.2).same st ∙ sym (c.visit.ensures.more c.if-not-visit.false _))
