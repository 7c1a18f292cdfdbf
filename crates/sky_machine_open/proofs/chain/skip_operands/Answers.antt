use Rattle.std.proofs.Common.{sym, ap, ◌∙◌, subst}
use Rattle.sky_base.specs.TreeView.{at, exp_view}
use Rattle.sky_base_law.specs.Nodes.{node_at}
use Rattle.sky_base_law.specs.Opened.{HasLinks, next_link}
use Rattle.sky_machine_code.specs.Shapes.{op_view, operands_view}
use Rattle.sky_machine_open.proofs.Walks.{times_all}
use Rattle.sky_machine_open.proofs.Places.{link_step, link_stop, links_left}
use Rattle.sky_machine_open.proofs.chain.skip_operands.Goals as goal
use Rattle.sky_machine_open.proofs.chain.skip_operands.Goals.{else-loop-passed-test, then-loop-passed-test+in_default}

pub loop-passed-preserved : goal.loop-passed-preserved
loop-passed-preserved c =
    let l = c.loop-passed in
    let o = c.in-Some.operand in
    let p = at o.line o.col in
    let e = exp_view o.operand.now in
    record {
      place = link_step l._passed l.next c.after_exp-next.result (c.args.second, operands_view c.args.operands) (op_view o.op) p e
          (operands_view l.rest) (operands_view o.rest) l.invariant.place c.in-Some.ensures c.after_exp-next.ensures;
      has = links_left (λ i. node_at c.args.code.now i) l.next c.after_exp-next.result (op_view o.op) p e (operands_view l.rest)
          (operands_view o.rest) c.in-Some.ensures c.after_exp-next.ensures l.invariant.has;
    }

pub returns-clause-place : goal.returns-clause-place
returns-clause-place c =
    let l = c.loop-passed in
    elim c.loop-passed-test.branch [
      | else-loop-passed-test w ↦ times_all next_link (c.args.second, operands_view c.args.operands)
          (l.next, operands_view l.rest) l._passed c.args.count l.invariant.place w.loop-passed-test.false l.auto._passed-end
          ∙ ap (λ r. (l.next, operands_view r)) (sym w.rest-is)
      | then-loop-passed-test+in_default w ↦ link_stop l._passed c.args.count l.next
          (c.args.second, operands_view c.args.operands) (operands_view l.rest) l.invariant.place w.in_default.ensures l.auto._passed-end
          ∙ ap (λ r. (l.next, operands_view r)) (sym w.rest-is)
    ]

pub returns-clause-has : goal.returns-clause-has
returns-clause-has c =
    let l = c.loop-passed in
    elim c.loop-passed-test.branch [
      | else-loop-passed-test w ↦ subst (λ r. HasLinks (λ i. node_at c.args.code.now i) (operands_view r) l.next)
          (sym w.rest-is) l.invariant.has
      | then-loop-passed-test+in_default w ↦
          subst (λ r. HasLinks (λ i. node_at c.args.code.now i) (operands_view r) l.next) (sym w.rest-is) tt
    ]
