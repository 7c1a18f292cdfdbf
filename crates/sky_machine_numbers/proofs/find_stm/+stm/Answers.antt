use Rattle.std.proofs.Common.{ℕ, ◌≡◌, ◌+◌, Some, sym, ap, ◌∙◌, subst, arith}
use Rattle.sky_base.specs.Tree.{Else, stm_nodes, arms_nodes, else_nodes}
use Rattle.sky_base.specs.TreeView.{exp_view}
use Rattle.sky_base.specs.StmtView.{stm_view, arms_view, else_view}
use Rattle.sky_base_law.specs.Nodes.{node_at}
use Rattle.sky_base_law.specs.Opened.{block_node, HasExp, HasStm, HasStms, HasArms, HasElse}
use Rattle.sky_machine_numbers.proofs.find_stm.+stm.Goals as goal

pub node_in_arms-loop-arm-preserved : goal.node_in_arms-loop-arm-preserved
node_in_arms-loop-arm-preserved t c =
    let l = c.loop-arm in
    let at = λ (i : ℕ). node_at c.args.code.now i in
    let is = ap arms_view c.in-Some.ensures.cases.0 in
    let has = subst (λ arms. HasArms at arms l.node) is l.invariant.has in
    let after = c.after_arm-after.ensures in
    record {
      has = subst (HasArms at (arms_view c.in-Some.more.now)) (sym after) has.3;
      from = omega (arith, c.if-number-after.false);
      to = omega (arith, l.invariant.to, ap arms_nodes is, after);
      most = omega (arith, l.invariant.most, ap arms_nodes is);
    }

pub node_in_both-node_in_block-requires : goal.node_in_both-node_in_block-requires
node_in_both-node_in_block-requires t c =
    let at = λ (i : ℕ). node_at c.args.code.now i in
    let b = c.args.block.now in
    let after = c.after_exp-after.ensures in (
      omega arith,
      (
        subst (λ m. at m ≡ Some (block_node b)) (sym after) c.requires.here,
        (
          subst (λ m. HasStms at b (m + 1)) (sym after) c.requires.has,
          (omega (arith, c.if-number-after.false), omega (arith, c.requires.to, after)),
        ),
      ),
    )

pub node_inside-node_in_exp-requires-else-number-after-clause-has : goal.node_inside-node_in_exp-requires-else-number-after-clause-has
node_inside-node_in_exp-requires-else-number-after-clause-has t c =
    let at = λ (i : ℕ). node_at c.args.code.now i in
    let is = ap stm_view c.in-Put.is in
    let has = subst (λ a. HasStm at a c.args.node) is c.requires.has in
    subst (HasExp at (exp_view c.in-Put.value)) (sym c.after_exp-after.ensures) has.2

pub node_inside-after_arms-after-requires : goal.node_inside-after_arms-after-requires
node_inside-after_arms-after-requires t c =
    let at = λ (i : ℕ). node_at c.args.code.now i in
    let is = ap stm_view c.in-If.is in
    let has = subst (λ a. HasStm at a c.args.node) is c.requires.has in
    subst (λ arms. HasArms at arms (c.args.node + 1)) (sym c.as_slice.ensures) has.1

pub node_inside-node_in_arms-requires : goal.node_inside-node_in_arms-requires
node_inside-node_in_arms-requires t c =
    let at = λ (i : ℕ). node_at c.args.code.now i in
    let is = ap stm_view c.in-If.is in
    let has = subst (λ a. HasStm at a c.args.node) is c.requires.has in
    let size = ap arms_nodes c.as_slice-then-number-after-2.ensures in
    let after = c.after_arms-after.ensures ∙ ap (λ arms. c.args.node + 1 + arms_nodes arms) c.as_slice.ensures in (
      omega (arith, ap stm_nodes is, size),
      (
        subst (λ arms. HasArms at arms (c.args.node + 1)) (sym c.as_slice-then-number-after-2.ensures) has.1,
        (omega (arith, c.requires.from), omega (arith, c.if-number-after-2.true, after, size)),
      ),
    )

pub node_inside-node_in_block-requires : goal.node_inside-node_in_block-requires
node_inside-node_in_block-requires t c =
    let at = λ (i : ℕ). node_at c.args.code.now i in
    let n = c.args.node in
    let arms = c.in-If.arms in
    let b = c.in-Some.block in
    let has = subst (λ s. HasStm at (stm_view s) n) c.in-If.is c.requires.has in
    let after = c.after_arms-after.ensures ∙ ap (λ xs. n + 1 + arms_nodes xs) c.as_slice.ensures in
    let els = subst (HasElse at (Else.otherwise b)) (sym after)
    (subst (λ o. HasElse at (else_view o) (n + 1 + arms_nodes arms)) c.in-Some.is has.2) in
    let size = ap (λ s. stm_nodes (stm_view s)) c.in-If.is in
    let rest = ap (λ o. else_nodes (else_view o)) c.in-Some.is in
    (omega (arith, size, rest), (els.0, (els.1, (omega (arith, c.if-number-after-2.false), omega (arith, c.requires.to, size, rest, after)))))

pub node_inside-node_in_both-requires : goal.node_inside-node_in_both-requires
node_inside-node_in_both-requires t c =
    let at = λ (i : ℕ). node_at c.args.code.now i in
    let is = ap stm_view c.in-While.is in
    let has = subst (λ a. HasStm at a c.args.node) is c.requires.has in
    (omega (arith, ap stm_nodes is), (has.1, (has.2, (has.3, (omega (arith, c.requires.from), omega (arith, c.requires.to, ap stm_nodes is))))))

pub node_inside-node_in_both-requires-in-For : goal.node_inside-node_in_both-requires-in-For
node_inside-node_in_both-requires-in-For t c =
    let at = λ (i : ℕ). node_at c.args.code.now i in
    let is = ap stm_view c.in-For.is in
    let has = subst (λ a. HasStm at a c.args.node) is c.requires.has in
    (omega (arith, ap stm_nodes is), (has.1, (has.2, (has.3, (omega (arith, c.requires.from), omega (arith, c.requires.to, ap stm_nodes is))))))

pub node_inside-node_in_block-requires-then-number-after-3 : goal.node_inside-node_in_block-requires-then-number-after-3
node_inside-node_in_block-requires-then-number-after-3 t c =
    let at = λ (i : ℕ). node_at c.args.code.now i in
    let is = ap stm_view c.in-Do.is in
    let has = subst (λ a. HasStm at a c.args.node) is c.requires.has in (
      omega (arith, ap stm_nodes is),
      (has.2, (has.3, (omega (arith, c.requires.from), omega (arith, c.if-number-after-3.true, c.after_block-after.ensures)))),
    )

pub node_inside-node_in_exp-requires-else-number-after-3-clause-has : goal.node_inside-node_in_exp-requires-else-number-after-3-clause-has
node_inside-node_in_exp-requires-else-number-after-3-clause-has t c =
    let at = λ (i : ℕ). node_at c.args.code.now i in
    let is = ap stm_view c.in-Do.is in
    let has = subst (λ a. HasStm at a c.args.node) is c.requires.has in
    subst (HasExp at (exp_view c.in-Do.test)) (sym c.after_block-after.ensures) has.1
