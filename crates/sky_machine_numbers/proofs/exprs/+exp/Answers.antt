use Rattle.std.proofs.Common.{◌≡◌, ◌++◌, length, length-append, sym, ap, ◌∙◌, subst, arith}
use Rattle.sky_base.specs.TreeView.{exp_view, ands_view, steps_view}
use Rattle.sky_base_law.specs.Opened.{exp_node}
use Rattle.sky_base_law.specs.Nodes.{pre_exp, pre_exps, pre_links, pre_ands, pre_steps}
use Rattle.sky_machine_code.specs.Shapes.{shape_view, rest_view, operands_view}
use Rattle.sky_machine_numbers.specs.Filled.{Filled, Fits, in_exp, in_step}
use Rattle.sky_machine_numbers.proofs.FilledLemmas.{filled_both, fits_more, end_in, node_ended, exp_nodes, exp_size, left_next, left_done, no_more, steps_first}
use Rattle.sky_machine_numbers.proofs.exprs.+exp.Goals as goal

pub number_exp-end-requires-clause-fits : goal.number_exp-end-requires-clause-fits
number_exp-end-requires-clause-fits t c =
    let e = exp_view c.args.e.now in
    let start = c.begin.new.ends.items in
    let mid = c.number_inside.new.ends.items in
    let inside = subst (λ x. Filled start mid (in_exp x)) c.shape_of.ensures c.in_ok-number_inside.ensures in
    (end_in c.args.ends.now.items start (exp_node e) (in_exp e) (pre_exp e) (exp_nodes e) c.in_ok-at.ensures.ends mid c.in_ok-at.at
    c.in_ok-at.ensures.place c.requires inside).1

pub number_exp-returns : goal.number_exp-returns
number_exp-returns t c =
    let e = exp_view c.args.e.now in
    let start = c.begin.new.ends.items in
    let mid = c.number_inside.new.ends.items in
    let inside = subst (λ x. Filled start mid (in_exp x)) c.shape_of.ensures c.in_ok-number_inside.ensures in
    node_ended c.args.ends.now.items start (exp_node e) (in_exp e) (pre_exp e) (exp_nodes e) c.in_ok-at.ensures.ends mid c.end.new.ends.items
    c.in_ok-at.at c.in_ok-at.ensures.place (exp_size e) inside c.end.ensures

pub number_inside-number_operands-requires : goal.number_inside-number_operands-requires
number_inside-number_operands-requires t c =
    let old = c.args.ends.now.items in
    let mid = c.number_exp-in-Chain.new.ends.items in
    let xs = pre_exp c.in-Chain.first.now in
    let ys = pre_links (operands_view c.in-Chain.rest) in
    let is : in_exp (shape_view c.args.shape) ≡ xs ++ ys = ap (λ s. in_exp (shape_view s)) c.in-Chain.is in
    let first = subst (λ x. Filled old mid (pre_exp x)) c.get-in-Chain.ensures c.in_ok-number_exp-in-Chain.ensures in
    (omega (arith, c.decreases, ap length is, length-append xs ys), fits_more old mid xs ys first (subst (Fits old) is c.requires))

pub number_inside-returns-in_ok-number_operands-in-Chain : goal.number_inside-returns-in_ok-number_operands-in-Chain
number_inside-returns-in_ok-number_operands-in-Chain t c =
    let old = c.args.ends.now.items in
    let mid = c.number_exp-in-Chain.new.ends.items in
    let xs = pre_exp c.in-Chain.first.now in
    let ys = pre_links (operands_view c.in-Chain.rest) in
    let is : in_exp (shape_view c.args.shape) ≡ xs ++ ys = ap (λ s. in_exp (shape_view s)) c.in-Chain.is in
    let first = subst (λ x. Filled old mid (pre_exp x)) c.get-in-Chain.ensures c.in_ok-number_exp-in-Chain.ensures in
    let new = c.number_operands.new.ends.items in
    subst (Filled old new) (sym is) (filled_both old mid new xs ys first c.in_ok-number_operands-in-Chain.ensures)

pub number_inside-number_joins-requires : goal.number_inside-number_joins-requires
number_inside-number_joins-requires t c =
    let old = c.args.ends.now.items in
    let mid = c.number_exp-in-Logic.new.ends.items in
    let xs = pre_exp c.in-Logic.first.now in
    let ys = pre_ands (ands_view c.in-Logic.rest.now) in
    let is : in_exp (shape_view c.args.shape) ≡ xs ++ ys = ap (λ s. in_exp (shape_view s)) c.in-Logic.is in
    let first = subst (λ x. Filled old mid (pre_exp x)) c.get-in-Logic.ensures c.in_ok-number_exp-in-Logic.ensures in
    (omega (arith, c.decreases, ap length is, length-append xs ys), fits_more old mid xs ys first (subst (Fits old) is c.requires))

pub number_inside-returns-in_ok-number_joins-in-Logic : goal.number_inside-returns-in_ok-number_joins-in-Logic
number_inside-returns-in_ok-number_joins-in-Logic t c =
    let old = c.args.ends.now.items in
    let mid = c.number_exp-in-Logic.new.ends.items in
    let xs = pre_exp c.in-Logic.first.now in
    let ys = pre_ands (ands_view c.in-Logic.rest.now) in
    let is : in_exp (shape_view c.args.shape) ≡ xs ++ ys = ap (λ s. in_exp (shape_view s)) c.in-Logic.is in
    let first = subst (λ x. Filled old mid (pre_exp x)) c.get-in-Logic.ensures c.in_ok-number_exp-in-Logic.ensures in
    let new = c.number_joins.new.ends.items in
    subst (Filled old new) (sym is) (filled_both old mid new xs ys first c.in_ok-number_joins-in-Logic.ensures)

pub number_inside-number_steps-requires : goal.number_inside-number_steps-requires
number_inside-number_steps-requires t c =
    let old = c.args.ends.now.items in
    let mid = c.number_exp-in-Postfix.new.ends.items in
    let xs = pre_exp c.in-Postfix.first.now in
    let ys = pre_steps (steps_view c.in-Postfix.rest.now) in
    let is : in_exp (shape_view c.args.shape) ≡ xs ++ ys = ap (λ s. in_exp (shape_view s)) c.in-Postfix.is in
    let first = subst (λ x. Filled old mid (pre_exp x)) c.get-in-Postfix.ensures c.in_ok-number_exp-in-Postfix.ensures in (
      omega (arith, c.decreases, ap length is, length-append xs ys, ap length (exp_nodes c.in-Postfix.first.now)),
      fits_more old mid xs ys first (subst (Fits old) is c.requires),
    )

pub number_inside-returns-in_ok-number_steps-in-Postfix : goal.number_inside-returns-in_ok-number_steps-in-Postfix
number_inside-returns-in_ok-number_steps-in-Postfix t c =
    let old = c.args.ends.now.items in
    let mid = c.number_exp-in-Postfix.new.ends.items in
    let xs = pre_exp c.in-Postfix.first.now in
    let ys = pre_steps (steps_view c.in-Postfix.rest.now) in
    let is : in_exp (shape_view c.args.shape) ≡ xs ++ ys = ap (λ s. in_exp (shape_view s)) c.in-Postfix.is in
    let first = subst (λ x. Filled old mid (pre_exp x)) c.get-in-Postfix.ensures c.in_ok-number_exp-in-Postfix.ensures in
    let new = c.number_steps.new.ends.items in
    subst (Filled old new) (sym is) (filled_both old mid new xs ys first c.in_ok-number_steps-in-Postfix.ensures)

pub number_parts-loop-next-preserved : goal.number_parts-loop-next-preserved
number_parts-loop-next-preserved t c =
    let l = c.loop-next in
    left_next c.args.ends.now.items l.ends.items c.number_exp.new.ends.items (pre_exps (rest_view c.args.parts)) (pre_exps (rest_view l.rest))
    (pre_exp (exp_view c.in-Some.next.part.now)) (pre_exps (rest_view c.in-Some.next.rest)) (ap pre_exps c.in-Some.ensures)
    c.in_ok-number_exp.ensures l.invariant

pub number_operands-loop-next-preserved : goal.number_operands-loop-next-preserved
number_operands-loop-next-preserved t c =
    let l = c.loop-next in
    left_next c.args.ends.now.items l.ends.items c.number_exp.new.ends.items (pre_links (operands_view c.args.operands))
    (pre_links (operands_view l.rest)) (pre_exp (exp_view c.in-Some.next.operand.now)) (pre_links (operands_view c.in-Some.next.rest))
    (ap pre_links c.in-Some.ensures) c.in_ok-number_exp.ensures l.invariant

pub number_joins-loop-join-preserved : goal.number_joins-loop-join-preserved
number_joins-loop-join-preserved t c =
    let l = c.loop-join in
    left_next c.args.ends.now.items l.ends.items c.number_exp.new.ends.items (pre_ands (ands_view c.args.joins.now))
    (pre_ands (ands_view l.rest.now)) (pre_exp (exp_view c.in-Some.join.now.operand)) (pre_ands (ands_view c.in-Some.more.now))
    (ap (λ js. pre_ands (ands_view js)) c.in-Some.ensures.cases.0) c.in_ok-number_exp.ensures l.invariant

pub number_steps-loop-step-preserved : goal.number_steps-loop-step-preserved
number_steps-loop-step-preserved t c =
    let l = c.loop-step in
    left_next c.args.ends.now.items l.ends.items c.number_step.new.ends.items (pre_steps (steps_view c.args.steps.now))
    (pre_steps (steps_view l.rest.now)) (in_step c.in-Some.step.now) (pre_steps (steps_view c.in-Some.more.now))
    (ap (λ ss. pre_steps (steps_view ss)) c.in-Some.ensures.cases.0 ∙ steps_first c.in-Some.step.now c.in-Some.more.now)
    c.in_ok-number_step.ensures l.invariant

pub number_parts-returns : goal.number_parts-returns
number_parts-returns t c =
    let l = c.loop-next in
    left_done c.args.ends.now.items l.ends.items (pre_exps (rest_view c.args.parts)) (pre_exps (rest_view l.rest))
    (ap pre_exps c.in_default.ensures) l.invariant

pub number_operands-returns : goal.number_operands-returns
number_operands-returns t c =
    let l = c.loop-next in
    left_done c.args.ends.now.items l.ends.items (pre_links (operands_view c.args.operands)) (pre_links (operands_view l.rest))
    (ap pre_links c.in_default.ensures) l.invariant

pub number_joins-returns : goal.number_joins-returns
number_joins-returns t c =
    let l = c.loop-join in
    left_done c.args.ends.now.items l.ends.items (pre_ands (ands_view c.args.joins.now)) (pre_ands (ands_view l.rest.now))
    (ap (λ js. pre_ands (ands_view js)) (no_more l.rest.now c.in_default.ensures.cases)) l.invariant

pub number_steps-returns : goal.number_steps-returns
number_steps-returns t c =
    let l = c.loop-step in
    left_done c.args.ends.now.items l.ends.items (pre_steps (steps_view c.args.steps.now)) (pre_steps (steps_view l.rest.now))
    (ap (λ ss. pre_steps (steps_view ss)) (no_more l.rest.now c.in_default.ensures.cases)) l.invariant
