use Rattle.std.proofs.Common.{◌≡◌, ◌<◌, ◌+◌, ap, ◌∙◌, arith}
use Rattle.sky_base.specs.Tree.{nodes, block_nodes, arms_nodes}
use Rattle.sky_base.specs.TreeView.{at, exp_view}
use Rattle.sky_base.specs.StmtView.{arms_view}
use Rattle.sky_machine_entries.specs.Entries.{last_block}
use Rattle.sky_base_law.specs.Nodes.{node_at}
use Rattle.sky_machine_open.proofs.Places.{arm_step, arms_left, cases_none}
use Rattle.sky_machine_open.proofs.stmt.open_arm.Goals as goal

pub returns-in_default : goal.returns-in_default
returns-in_default c =
    let l = c.loop-passed in
    let few : l._passed < c.args.step = omega (arith, c.loop-passed-test.true) in
    cases_none (arms_view c.args.arms.now) (last_block c.args.otherwise) c.args.node c.args.step l._passed c.args.next l.at l.rest.now
    c.requires.first l.invariant.place c.in_default.ensures.cases few

pub loop-passed-preserved : goal.loop-passed-preserved
loop-passed-preserved c =
    let l = c.loop-passed in
    let arm = c.in-Some.arm.now in
    let p = at arm.line arm.col in
    let e = exp_view arm.test in
    let more = arms_view c.in-Some.more.now in
    let is = ap arms_view c.in-Some.ensures.cases.0 in
    let next : c.after_block-at.result ≡ l.at + nodes e + block_nodes arm.body = c.after_block-at.ensures
    ∙ ap (λ k. k + block_nodes arm.body) c.after_exp.ensures in
    record {
      place = arm_step l._passed l.at c.after_block-at.result (c.args.next, arms_view c.args.arms.now) p e arm.body (arms_view l.rest.now) more
          l.invariant.place is next;
      has = arms_left (λ i. node_at c.args.code.now i) l.at c.after_block-at.result p e arm.body (arms_view l.rest.now) more is next l.invariant.has;
      end = omega (arith, l.invariant.end, ap arms_nodes is, next);
    }
