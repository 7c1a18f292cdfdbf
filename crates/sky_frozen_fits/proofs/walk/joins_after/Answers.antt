use Rattle.std.proofs.Common.{ap}
use Rattle.sky_base.specs.TreeView.{at, exp_view, ands_view}
use Rattle.sky_base_law.specs.Nodes.{node_at}
use Rattle.sky_state.specs.Table.{past_and}
use Rattle.sky_machine_open.proofs.Places.{ands_left}
use Rattle.sky_frozen_fits.proofs.Walks.{on_more, on_none, none_and, one_and}
use Rattle.sky_frozen_fits.proofs.walk.joins_after.Goals as goal

pub returns-in_default : goal.returns-in_default
returns-in_default c =
    let l = c.loop-passed in
    on_none past_and l._passed c.args.count (c.args.second, ands_view c.args.joins.now) (l.next, ands_view l.rest.now) l.invariant.place
    (none_and l.next l.rest.now c.in_default.ensures.cases) c.loop-passed-test.true

pub loop-passed-preserved : goal.loop-passed-preserved
loop-passed-preserved c =
    let l = c.loop-passed in
    let join = c.in-Some.join.now in
    let p = at join.line join.col in
    let e = exp_view join.operand in
    let more = ands_view c.in-Some.more.now in
    let is = ap ands_view c.in-Some.ensures.cases.0 in
    record {
      place = on_more past_and l._passed (c.args.second, ands_view c.args.joins.now) (l.next, ands_view l.rest.now)
          (c.after_exp-next.result, more) l.invariant.place
          (one_and l.next c.after_exp-next.result p e (ands_view l.rest.now) more is c.after_exp-next.ensures);
      has = ands_left (λ i. node_at c.args.code.now i) l.next c.after_exp-next.result p e (ands_view l.rest.now) more is c.after_exp-next.ensures
          l.invariant.has;
    }
