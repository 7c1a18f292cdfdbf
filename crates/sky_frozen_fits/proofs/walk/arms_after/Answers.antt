use Rattle.std.proofs.Common.{◌≡◌, ◌+◌, ap, ◌∙◌}
use Rattle.sky_base.specs.Tree.{nodes, block_nodes}
use Rattle.sky_base.specs.TreeView.{at, exp_view}
use Rattle.sky_base.specs.StmtView.{arms_view}
use Rattle.sky_base_law.specs.Nodes.{node_at}
use Rattle.sky_state.specs.Table.{past_arm}
use Rattle.sky_machine_open.proofs.Places.{arms_left}
use Rattle.sky_frozen_fits.proofs.Walks.{on_more, on_none, none_arm, one_arm}
use Rattle.sky_frozen_fits.proofs.walk.arms_after.Goals as goal

pub returns-in_default : goal.returns-in_default
returns-in_default c =
    let l = c.loop-passed in
    on_none past_arm l._passed c.args.count (c.args.first, arms_view c.args.arms.now) (l.next, arms_view l.rest.now) l.invariant.place
    (none_arm l.next l.rest.now c.in_default.ensures.cases) c.loop-passed-test.true

pub loop-passed-preserved : goal.loop-passed-preserved
loop-passed-preserved c =
    let l = c.loop-passed in
    let arm = c.in-Some.arm.now in
    let p = at arm.line arm.col in
    let e = exp_view arm.test in
    let more = arms_view c.in-Some.more.now in
    let is = ap arms_view c.in-Some.ensures.cases.0 in
    let next : c.after_block-next.result ≡ l.next + nodes e + block_nodes arm.body = c.after_block-next.ensures
    ∙ ap (λ k. k + block_nodes arm.body) c.after_exp.ensures in
    record {
      place = on_more past_arm l._passed (c.args.first, arms_view c.args.arms.now) (l.next, arms_view l.rest.now)
          (c.after_block-next.result, more) l.invariant.place
          (one_arm l.next c.after_block-next.result p e arm.body (arms_view l.rest.now) more is next);
      has = arms_left (λ i. node_at c.args.code.now i) l.next c.after_block-next.result p e arm.body (arms_view l.rest.now) more is next
          l.invariant.has;
    }
