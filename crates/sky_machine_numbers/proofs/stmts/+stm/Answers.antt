use Rattle.std.proofs.Common.{◌≡◌, ◌++◌, length, length-append, refl, sym, ap, ◌∙◌, subst, arith}
use Rattle.sky_base.specs.TreeView.{exp_view}
use Rattle.sky_base.specs.StmtView.{stm_view, stms_view, arms_view, else_view}
use Rattle.sky_base_law.specs.Opened.{stm_node, block_node}
use Rattle.sky_base_law.specs.Nodes.{pre_exp, pre_stm, pre_stms, pre_arms, pre_else, pre_block}
use Rattle.sky_machine_numbers.specs.Filled.{Filled, Fits, in_stm}
use Rattle.sky_machine_numbers.proofs.FilledLemmas.{filled_both, fits_more, end_in, node_ended, stm_nodes_are, stm_size, block_size, left_next, left_done, no_more}
use Rattle.sky_machine_numbers.proofs.FilledLemmas.{arms_first}
use Rattle.sky_machine_numbers.proofs.stmts.+stm.Goals as goal

pub number_block-end-requires-clause-fits : goal.number_block-end-requires-clause-fits
number_block-end-requires-clause-fits t c =
    let start = c.begin.new.ends.items in
    let mid = c.number_stmts.new.ends.items in
    let b = c.args.block.now in
    let inside = subst (λ x. Filled start mid (pre_stms x)) c.as_slice.ensures c.in_ok-number_stmts.ensures in
    (end_in c.args.ends.now.items start (block_node b) (pre_stms b) (pre_block b) (refl) c.in_ok-at.ensures.ends mid c.in_ok-at.at
    c.in_ok-at.ensures.place c.requires inside).1

pub number_block-returns : goal.number_block-returns
number_block-returns t c =
    let start = c.begin.new.ends.items in
    let mid = c.number_stmts.new.ends.items in
    let b = c.args.block.now in
    let inside = subst (λ x. Filled start mid (pre_stms x)) c.as_slice.ensures c.in_ok-number_stmts.ensures in
    node_ended c.args.ends.now.items start (block_node b) (pre_stms b) (pre_block b) (refl) c.in_ok-at.ensures.ends mid c.end.new.ends.items
    c.in_ok-at.at c.in_ok-at.ensures.place (block_size b) inside c.end.ensures

pub number_stmt-end-requires-clause-fits : goal.number_stmt-end-requires-clause-fits
number_stmt-end-requires-clause-fits t c =
    let start = c.begin.new.ends.items in
    let mid = c.number_in_stmt.new.ends.items in
    let a = stm_view c.args.s.now in
    let inside = c.in_ok-number_in_stmt.ensures in
    (end_in c.args.ends.now.items start (stm_node a) (in_stm a) (pre_stm a) (stm_nodes_are a) c.in_ok-at.ensures.ends mid c.in_ok-at.at
    c.in_ok-at.ensures.place c.requires inside).1

pub number_stmt-returns : goal.number_stmt-returns
number_stmt-returns t c =
    let start = c.begin.new.ends.items in
    let mid = c.number_in_stmt.new.ends.items in
    let a = stm_view c.args.s.now in
    let inside = c.in_ok-number_in_stmt.ensures in
    node_ended c.args.ends.now.items start (stm_node a) (in_stm a) (pre_stm a) (stm_nodes_are a) c.in_ok-at.ensures.ends mid c.end.new.ends.items
    c.in_ok-at.at c.in_ok-at.ensures.place (stm_size a) inside c.end.ensures

pub number_in_stmt-number_exp-requires-in-Put : goal.number_in_stmt-number_exp-requires-in-Put
number_in_stmt-number_exp-requires-in-Put t c =
    let old = c.args.ends.now.items in
    let mid = c.number_exp.new.ends.items in
    let xs = pre_exp (exp_view c.in-Put.at) in
    let ys = pre_exp (exp_view c.in-Put.value) in
    let is : in_stm (stm_view c.args.s.now) ≡ xs ++ ys = ap (λ s. in_stm (stm_view s)) c.in-Put.is in
    let first = c.in_ok-number_exp-in-Put.ensures in
    fits_more old mid xs ys first (subst (Fits old) is c.requires)

pub number_in_stmt-returns-in_ok-number_exp-in-Put-2 : goal.number_in_stmt-returns-in_ok-number_exp-in-Put-2
number_in_stmt-returns-in_ok-number_exp-in-Put-2 t c =
    let old = c.args.ends.now.items in
    let mid = c.number_exp.new.ends.items in
    let xs = pre_exp (exp_view c.in-Put.at) in
    let ys = pre_exp (exp_view c.in-Put.value) in
    let is : in_stm (stm_view c.args.s.now) ≡ xs ++ ys = ap (λ s. in_stm (stm_view s)) c.in-Put.is in
    let first = c.in_ok-number_exp-in-Put.ensures in
    let new = c.number_exp-in-Put.new.ends.items in
    subst (Filled old new) (sym is) (filled_both old mid new xs ys first c.in_ok-number_exp-in-Put-2.ensures)

pub number_in_stmt-number_block-requires : goal.number_in_stmt-number_block-requires
number_in_stmt-number_block-requires t c =
    let old = c.args.ends.now.items in
    let mid = c.number_arms.new.ends.items in
    let xs = pre_arms c.in-If.arms in
    let ys = pre_block c.in-Some.block in
    let is : in_stm (stm_view c.args.s.now) ≡ xs ++ ys = ap (λ s. in_stm (stm_view s)) c.in-If.is
    ∙ ap (λ o. pre_arms c.in-If.arms ++ pre_else (else_view o)) c.in-Some.is in
    let first = subst (λ x. Filled old mid (pre_arms x)) c.as_slice.ensures c.in_ok-number_arms-in-If.ensures in
    (omega (arith, c.decreases, ap length is, length-append xs ys), fits_more old mid xs ys first (subst (Fits old) is c.requires))

pub number_in_stmt-returns-in_ok-number_block-in-Some : goal.number_in_stmt-returns-in_ok-number_block-in-Some
number_in_stmt-returns-in_ok-number_block-in-Some t c =
    let old = c.args.ends.now.items in
    let mid = c.number_arms.new.ends.items in
    let xs = pre_arms c.in-If.arms in
    let ys = pre_block c.in-Some.block in
    let is : in_stm (stm_view c.args.s.now) ≡ xs ++ ys = ap (λ s. in_stm (stm_view s)) c.in-If.is
    ∙ ap (λ o. pre_arms c.in-If.arms ++ pre_else (else_view o)) c.in-Some.is in
    let first = subst (λ x. Filled old mid (pre_arms x)) c.as_slice.ensures c.in_ok-number_arms-in-If.ensures in
    let new = c.number_block.new.ends.items in
    subst (Filled old new) (sym is) (filled_both old mid new xs ys first c.in_ok-number_block-in-Some.ensures)

pub number_in_stmt-number_block-requires-in-While : goal.number_in_stmt-number_block-requires-in-While
number_in_stmt-number_block-requires-in-While t c =
    let old = c.args.ends.now.items in
    let mid = c.number_exp-in-While.new.ends.items in
    let xs = pre_exp (exp_view c.in-While.test) in
    let ys = pre_block c.in-While.body in
    let is : in_stm (stm_view c.args.s.now) ≡ xs ++ ys = ap (λ s. in_stm (stm_view s)) c.in-While.is in
    let first = c.in_ok-number_exp-in-While.ensures in
    (omega (arith, c.decreases, ap length is, length-append xs ys), fits_more old mid xs ys first (subst (Fits old) is c.requires))

pub number_in_stmt-returns-in_ok-number_block-in-While : goal.number_in_stmt-returns-in_ok-number_block-in-While
number_in_stmt-returns-in_ok-number_block-in-While t c =
    let old = c.args.ends.now.items in
    let mid = c.number_exp-in-While.new.ends.items in
    let xs = pre_exp (exp_view c.in-While.test) in
    let ys = pre_block c.in-While.body in
    let is : in_stm (stm_view c.args.s.now) ≡ xs ++ ys = ap (λ s. in_stm (stm_view s)) c.in-While.is in
    let first = c.in_ok-number_exp-in-While.ensures in
    let new = c.number_block-in-While.new.ends.items in
    subst (Filled old new) (sym is) (filled_both old mid new xs ys first c.in_ok-number_block-in-While.ensures)

pub number_in_stmt-number_exp-requires-in-Do : goal.number_in_stmt-number_exp-requires-in-Do
number_in_stmt-number_exp-requires-in-Do t c =
    let old = c.args.ends.now.items in
    let mid = c.number_block-in-Do.new.ends.items in
    let xs = pre_block c.in-Do.body in
    let ys = pre_exp (exp_view c.in-Do.test) in
    let is : in_stm (stm_view c.args.s.now) ≡ xs ++ ys = ap (λ s. in_stm (stm_view s)) c.in-Do.is in
    let first = c.in_ok-number_block-in-Do.ensures in
    fits_more old mid xs ys first (subst (Fits old) is c.requires)

pub number_in_stmt-returns-in_ok-number_exp-in-Do : goal.number_in_stmt-returns-in_ok-number_exp-in-Do
number_in_stmt-returns-in_ok-number_exp-in-Do t c =
    let old = c.args.ends.now.items in
    let mid = c.number_block-in-Do.new.ends.items in
    let xs = pre_block c.in-Do.body in
    let ys = pre_exp (exp_view c.in-Do.test) in
    let is : in_stm (stm_view c.args.s.now) ≡ xs ++ ys = ap (λ s. in_stm (stm_view s)) c.in-Do.is in
    let first = c.in_ok-number_block-in-Do.ensures in
    let new = c.number_exp-in-Do.new.ends.items in
    subst (Filled old new) (sym is) (filled_both old mid new xs ys first c.in_ok-number_exp-in-Do.ensures)

pub number_in_stmt-number_block-requires-in-For : goal.number_in_stmt-number_block-requires-in-For
number_in_stmt-number_block-requires-in-For t c =
    let old = c.args.ends.now.items in
    let mid = c.number_exp-in-For.new.ends.items in
    let xs = pre_exp (exp_view c.in-For.list) in
    let ys = pre_block c.in-For.body in
    let is : in_stm (stm_view c.args.s.now) ≡ xs ++ ys = ap (λ s. in_stm (stm_view s)) c.in-For.is in
    let first = c.in_ok-number_exp-in-For.ensures in
    (omega (arith, c.decreases, ap length is, length-append xs ys), fits_more old mid xs ys first (subst (Fits old) is c.requires))

pub number_in_stmt-returns-in_ok-number_block-in-For : goal.number_in_stmt-returns-in_ok-number_block-in-For
number_in_stmt-returns-in_ok-number_block-in-For t c =
    let old = c.args.ends.now.items in
    let mid = c.number_exp-in-For.new.ends.items in
    let xs = pre_exp (exp_view c.in-For.list) in
    let ys = pre_block c.in-For.body in
    let is : in_stm (stm_view c.args.s.now) ≡ xs ++ ys = ap (λ s. in_stm (stm_view s)) c.in-For.is in
    let first = c.in_ok-number_exp-in-For.ensures in
    let new = c.number_block-in-For.new.ends.items in
    subst (Filled old new) (sym is) (filled_both old mid new xs ys first c.in_ok-number_block-in-For.ensures)

pub number_arm-number_block-requires : goal.number_arm-number_block-requires
number_arm-number_block-requires t c =
    let old = c.args.ends.now.items in
    let mid = c.number_exp.new.ends.items in
    let xs = pre_exp (exp_view c.args.arm.now.test) in
    let ys = pre_block c.args.arm.now.body in
    let is : pre_exp (exp_view c.args.arm.now.test) ++ pre_block c.args.arm.now.body ≡ xs ++ ys = refl in
    let first = c.in_ok-number_exp.ensures in
    (omega (arith, c.decreases, ap length is, length-append xs ys), fits_more old mid xs ys first (subst (Fits old) is c.requires))

pub number_arm-returns : goal.number_arm-returns
number_arm-returns t c =
    let old = c.args.ends.now.items in
    let mid = c.number_exp.new.ends.items in
    let xs = pre_exp (exp_view c.args.arm.now.test) in
    let ys = pre_block c.args.arm.now.body in
    let is : pre_exp (exp_view c.args.arm.now.test) ++ pre_block c.args.arm.now.body ≡ xs ++ ys = refl in
    let first = c.in_ok-number_exp.ensures in
    let new = c.number_block.new.ends.items in
    subst (Filled old new) (sym is) (filled_both old mid new xs ys first c.in_ok-number_block.ensures)

pub number_arms-loop-arm-preserved : goal.number_arms-loop-arm-preserved
number_arms-loop-arm-preserved t c =
    let l = c.loop-arm in
    let a = c.in-Some.arm.now in
    let more = c.in-Some.more.now in
    left_next c.args.ends.now.items l.ends.items c.number_arm.new.ends.items (pre_arms (arms_view c.args.arms.now))
    (pre_arms (arms_view l.rest.now)) (pre_exp (exp_view a.test) ++ pre_block a.body) (pre_arms (arms_view more))
    (ap (λ xs. pre_arms (arms_view xs)) c.in-Some.ensures.cases.0 ∙ arms_first a more) c.in_ok-number_arm.ensures l.invariant

pub number_stmts-loop-stmt-preserved : goal.number_stmts-loop-stmt-preserved
number_stmts-loop-stmt-preserved t c =
    let l = c.loop-stmt in
    left_next c.args.ends.now.items l.ends.items c.number_stmt.new.ends.items (pre_stms (stms_view c.args.stmts.now))
    (pre_stms (stms_view l.rest.now)) (pre_stm (stm_view c.in-Some.stmt.now)) (pre_stms (stms_view c.in-Some.more.now))
    (ap (λ ss. pre_stms (stms_view ss)) c.in-Some.ensures.cases.0) c.in_ok-number_stmt.ensures l.invariant

pub number_arms-returns : goal.number_arms-returns
number_arms-returns t c =
    let l = c.loop-arm in
    left_done c.args.ends.now.items l.ends.items (pre_arms (arms_view c.args.arms.now)) (pre_arms (arms_view l.rest.now))
    (ap (λ xs. pre_arms (arms_view xs)) (no_more l.rest.now c.in_default.ensures.cases)) l.invariant

pub number_stmts-returns : goal.number_stmts-returns
number_stmts-returns t c =
    let l = c.loop-stmt in
    left_done c.args.ends.now.items l.ends.items (pre_stms (stms_view c.args.stmts.now)) (pre_stms (stms_view l.rest.now))
    (ap (λ xs. pre_stms (stms_view xs)) (no_more l.rest.now c.in_default.ensures.cases)) l.invariant
