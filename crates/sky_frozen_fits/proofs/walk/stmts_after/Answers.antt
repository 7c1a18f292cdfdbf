use Rattle.std.proofs.Common.{ap}
use Rattle.sky_base.specs.StmtView.{stm_view, stms_view}
use Rattle.sky_base_law.specs.Nodes.{node_at}
use Rattle.sky_state.specs.Table.{past_stm}
use Rattle.sky_frozen_fits.proofs.Walks.{on_more, on_none, none_stm, one_stm, stms_left}
use Rattle.sky_frozen_fits.proofs.walk.stmts_after.Goals as goal

pub returns-in_default-clause-place : goal.returns-in_default-clause-place
returns-in_default-clause-place c =
    let l = c.loop-passed in
    on_none past_stm l._passed c.args.count (c.args.first, stms_view c.args.stmts.now) (l.next, stms_view l.rest.now) l.invariant.place
    (none_stm l.next l.rest.now c.in_default.ensures.cases) c.loop-passed-test.true

pub loop-passed-preserved : goal.loop-passed-preserved
loop-passed-preserved c =
    let l = c.loop-passed in
    let a = stm_view c.in-Some.stmt.now in
    let more = stms_view c.in-Some.more.now in
    let is = ap stms_view c.in-Some.ensures.cases.0 in
    record {
      place = on_more past_stm l._passed (c.args.first, stms_view c.args.stmts.now) (l.next, stms_view l.rest.now)
          (c.after_stmt-next.result, more) l.invariant.place
          (one_stm l.next c.after_stmt-next.result a (stms_view l.rest.now) more is c.after_stmt-next.ensures);
      has = stms_left (λ i. node_at c.args.code.now i) l.next c.after_stmt-next.result a (stms_view l.rest.now) more is c.after_stmt-next.ensures
          l.invariant.has;
    }
