use Rattle.std.proofs.Common.{ap, ◌∙◌, arith}
use Rattle.sky_base.specs.StmtView.{stm_view, stms_view}
use Rattle.sky_base_law.specs.Nodes.{node_at}
use Rattle.sky_machine_stmts.proofs.Blocks.{stm_ready, stm_has}
use Rattle.sky_machine_stmts.proofs.Quick.{stms_next}
use Rattle.sky_machine_stmts.proofs.at_once.stmts_ahead.Goals as goal

pub after_stmt-next-requires : goal.after_stmt-next-requires
after_stmt-next-requires c =
    stm_has (λ i. node_at c.args.code.now i) c.stmts.next (stm_view c.in-Some.first.now) (stms_view c.in-Some.more.now)
    (stms_view c.stmts.rest.now) (ap stms_view c.in-Some.ensures.cases.0) c.stmts.invariant.has

pub stmts-preserved : goal.stmts-preserved
stmts-preserved c =
    let l = c.stmts in
    let a = stm_view c.in-Some.first.now in
    let more = stms_view c.in-Some.more.now in
    let xs = stms_view l.rest.now in
    let is = ap stms_view c.in-Some.ensures.cases.0 in
    let done = c.in_ok-end-in-Some.ensures in
    let next = c.after_stmt-next.ensures in
    let left = stm_ready (λ i. node_at c.args.code.now i) l.step l.next c.after_stmt-next.result a more xs is l.invariant.has next l.invariant.step in
    record {
      step = left.0;
      has = left.1;
      within = done.within;
      more = omega (arith, l.invariant.more, done.more);
      same = λ w body h. l.invariant.same w body h
          ∙ stms_next w body a more xs c.args.block.node l.step l.next c.after_stmt-next.result l.state c.stmt_end.new.state next is
          (rw c.in-Goes.is at ((rw c.in-Some-end.is at done.same) w body h));
    }
