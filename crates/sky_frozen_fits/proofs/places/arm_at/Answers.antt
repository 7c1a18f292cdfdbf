use Rattle.std.proofs.Common.{◌≡◌, ◌+◌, inr, sym, ap, ◌∙◌, subst}
use Rattle.sky_base.specs.Tree.{nodes, block_nodes}
use Rattle.sky_base.specs.TreeView.{at, exp_view}
use Rattle.sky_base.specs.StmtView.{arms_view}
use Rattle.sky_base_law.specs.Nodes.{node_at}
use Rattle.sky_base_law.specs.Tasks.{In}
use Rattle.sky_machine_entries.specs.Entries.{last_block}
use Rattle.sky_machine_open.proofs.Places.{arms_left}
use Rattle.sky_frozen_fits.proofs.Blocks.{arms_one, not_first}
use Rattle.sky_frozen_fits.proofs.places.arm_at.Goals as goal

pub loop-arm-preserved : goal.loop-arm-preserved
loop-arm-preserved c =
    let l = c.loop-arm in
    let arm = c.in-Some.arm.now in
    let p = at arm.line arm.col in
    let e = exp_view arm.test in
    let more = arms_view c.in-Some.more.now in
    let blk = c.after_exp-block.result in
    let next = c.after_block-at.result in
    let is = ap arms_view c.in-Some.ensures.cases.0 in
    let end : next ≡ l.at + nodes e + block_nodes arm.body = c.after_block-at.ensures
    ∙ ap (λ k. k + block_nodes arm.body) c.after_exp-block.ensures in
    let one = arms_one l.at blk next p e arm.body (arms_view l.rest.now) more (last_block c.args.otherwise) is c.after_exp-block.ensures
    c.after_block-at.ensures in
    record {
      has = arms_left (λ i. node_at c.args.code.now i) l.at next p e arm.body (arms_view l.rest.now) more is end l.invariant.has;
      all = λ h. l.invariant.all (subst (In c.args.node) (sym one) (inr h));
      left = λ h. not_first blk c.args.node c.if-block-node.false (subst (In c.args.node) one (l.invariant.left h));
    }
