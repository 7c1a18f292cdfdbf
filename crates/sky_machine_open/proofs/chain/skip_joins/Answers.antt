use Rattle.std.proofs.Common.{ap}
use Rattle.sky_base.specs.TreeView.{at, exp_view, ands_view}
use Rattle.sky_base_law.specs.Nodes.{node_at}
use Rattle.sky_base_law.specs.Opened.{next_and}
use Rattle.sky_machine_open.proofs.Walks.{times_all}
use Rattle.sky_machine_open.proofs.Places.{and_step, and_stop, ands_left, no_joins}
use Rattle.sky_machine_open.proofs.chain.skip_joins.Goals as goal
use Rattle.sky_machine_open.proofs.chain.skip_joins.Goals.{else-loop-passed-test, then-loop-passed-test+in_default}

pub loop-passed-preserved : goal.loop-passed-preserved
loop-passed-preserved c =
    let l = c.loop-passed in
    let join = c.in-Some.join.now in
    let p = at join.line join.col in
    let e = exp_view join.operand in
    let more = ands_view c.in-Some.more.now in
    let is = ap ands_view c.in-Some.ensures.cases.0 in
    record {
      place = and_step l._passed l.next c.after_exp-next.result (c.args.second, ands_view c.args.joins.now) p e (ands_view l.rest.now) more
          l.invariant.place is c.after_exp-next.ensures;
      has = ands_left (λ i. node_at c.args.code.now i) l.next c.after_exp-next.result p e (ands_view l.rest.now) more is c.after_exp-next.ensures
          l.invariant.has;
    }

pub returns-clause-place : goal.returns-clause-place
returns-clause-place c =
    let l = c.loop-passed in
    elim c.loop-passed-test.branch [
      | else-loop-passed-test w ↦ times_all next_and (c.args.second, ands_view c.args.joins.now)
          (l.next, ands_view l.rest.now) l._passed c.args.count l.invariant.place w.loop-passed-test.false l.auto._passed-end
      | then-loop-passed-test+in_default w ↦ and_stop l._passed c.args.count l.next (c.args.second, ands_view c.args.joins.now)
          (ands_view l.rest.now) l.invariant.place (no_joins l.rest.now w.in_default.ensures.cases) l.auto._passed-end
    ]
