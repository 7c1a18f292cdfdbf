use Rattle.std.proofs.Common.{◌≡◌, ◌+◌, Some, sym, ap, ◌∙◌, subst}
use Rattle.sky_base.specs.Tree.{block_nodes}
use Rattle.sky_base.specs.TreeView.{at, exp_view}
use Rattle.sky_base.specs.Eval.{go_repeat}
use Rattle.sky_base_law.specs.Opened.{block_node, HasExp}
use Rattle.sky_base_law.specs.Nodes.{node_at}
use Rattle.sky_machine_entries.specs.Config.{body_in, rest_in}
use Rattle.sky_machine_entries.specs.Entries.{forms}
use Rattle.sky_machine_stmts.proofs.stmt.begin_do.Goals as goal

pub after_block-test_at-requires : goal.after_block-test_at-requires
after_block-test_at-requires c =
    let is = c.inside.ensures.some (block_node c.args.body.now) c.requires.has.2 in
    subst (λ m. node_at c.args.code.now m ≡ Some (block_node c.args.body.now)) (sym is) c.requires.has.2

pub again-requires-clause-entry : goal.again-requires-clause-entry
again-requires-clause-entry c =
    let is = c.inside.ensures.some (block_node c.args.body.now) c.requires.has.2 in
    let next = c.after_block-test_at.ensures ∙ ap (λ m. m + block_nodes c.args.body.now) is in
    (subst (HasExp (λ k. node_at c.args.code.now k) (exp_view c.args.test.now)) (sym next) c.requires.has.1, (c.requires.has.2, c.requires.has.3))

pub returns-clause-same : goal.returns-clause-same
returns-clause-same c = λ w.
    let e = exp_view c.args.test.now in
    let n = c.args.node in
    let p = at c.args.line c.args.col in
    let st = c.visit.new.state in
    let old = c.args.entries.now.items in
    let is = c.inside.ensures.some (block_node c.args.body.now) c.requires.has.2 in
    let next = c.after_block-test_at.ensures ∙ ap (λ m. m + block_nodes c.args.body.now) is in
    c.in_ok-control.ensures.same w st c.visit.ensures.within
    ∙ ap (rest_in w old) (ap (λ m. go_repeat w (body_in w (forms old)) n m p c.args.body.now e st) next
    ∙ sym (c.visit.ensures.more c.if-not-visit.false _))
