use Rattle.sky_base.specs.TreeView.{at, exp_view}
use Rattle.sky_machine_code.specs.Shapes.{op_view, operands_view}
use Rattle.sky_base_law.specs.Nodes.{node_at}
use Rattle.sky_state.specs.Table.{past_link}
use Rattle.sky_machine_open.proofs.Places.{links_left}
use Rattle.sky_frozen_fits.proofs.Walks.{on_more, on_none, none_link, one_link}
use Rattle.sky_frozen_fits.proofs.walk.operands_after.Goals as goal

pub returns-in_default : goal.returns-in_default
returns-in_default c =
    let l = c.loop-passed in
    on_none past_link l._passed c.args.count (c.args.second, operands_view c.args.operands) (l.next, operands_view l.rest) l.invariant.place
    (none_link l.next (operands_view l.rest) c.in_default.ensures) c.loop-passed-test.true

pub loop-passed-preserved : goal.loop-passed-preserved
loop-passed-preserved c =
    let l = c.loop-passed in
    let o = c.in-Some.operand in
    let p = at o.line o.col in
    let e = exp_view o.operand.now in
    record {
      place = on_more past_link l._passed (c.args.second, operands_view c.args.operands) (l.next, operands_view l.rest)
          (c.after_exp-next.result, operands_view o.rest) l.invariant.place
          (one_link l.next c.after_exp-next.result (op_view o.op) p e (operands_view l.rest) (operands_view o.rest) c.in-Some.ensures
          c.after_exp-next.ensures);
      has = links_left (λ i. node_at c.args.code.now i) l.next c.after_exp-next.result (op_view o.op) p e (operands_view l.rest)
          (operands_view o.rest) c.in-Some.ensures c.after_exp-next.ensures l.invariant.has;
    }
