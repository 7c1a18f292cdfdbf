use Rattle.std.proofs.Common.{ℕ, ◌+◌, sym, ap, ◌∙◌, subst, arith}
use Rattle.sky_base.specs.Tree.{nodes, exps_nodes, links_nodes, ands_nodes, steps_nodes}
use Rattle.sky_base.specs.TreeView.{ands_view, steps_view, step_nodes}
use Rattle.sky_base_law.specs.Nodes.{node_at}
use Rattle.sky_base_law.specs.Opened.{HasExp, HasExps, HasLinks, HasAnds, HasSteps}
use Rattle.sky_machine_code.specs.Shapes.{shape_view, rest_view, operands_view}
use Rattle.sky_machine_code.proofs.Bodies.{nodes_pos}
use Rattle.sky_machine_numbers.specs.Standing.{HasStep}
use Rattle.sky_machine_numbers.proofs.NodesByNumber.{step_size, step_stands}
use Rattle.sky_machine_numbers.proofs.find_exp.+exp.Goals as goal

pub node_in_parts-loop-next-preserved : goal.node_in_parts-loop-next-preserved
node_in_parts-loop-next-preserved t c =
    let l = c.loop-next in
    let at = λ (i : ℕ). node_at c.args.code.now i in
    let is = c.in-Some.ensures in
    let has = subst (λ es. HasExps at es l.node) is l.invariant.has in
    let after = c.after_exp-after.ensures in
    record {
      has = subst (HasExps at (rest_view c.in-Some.next.rest)) (sym after) has.1;
      from = omega (arith, c.if-number-after.false);
      to = omega (arith, l.invariant.to, ap exps_nodes is, after);
      most = omega (arith, l.invariant.most, ap exps_nodes is);
    }

pub node_in_operands-loop-next-preserved : goal.node_in_operands-loop-next-preserved
node_in_operands-loop-next-preserved t c =
    let l = c.loop-next in
    let at = λ (i : ℕ). node_at c.args.code.now i in
    let is = c.in-Some.ensures in
    let has = subst (λ ls. HasLinks at ls l.node) is l.invariant.has in
    let after = c.after_exp-after.ensures in
    record {
      has = subst (HasLinks at (operands_view c.in-Some.next.rest)) (sym after) has.1;
      from = omega (arith, c.if-number-after.false);
      to = omega (arith, l.invariant.to, ap links_nodes is, after);
      most = omega (arith, l.invariant.most, ap links_nodes is);
    }

pub node_in_joins-loop-join-preserved : goal.node_in_joins-loop-join-preserved
node_in_joins-loop-join-preserved t c =
    let l = c.loop-join in
    let at = λ (i : ℕ). node_at c.args.code.now i in
    let is = ap ands_view c.in-Some.ensures.cases.0 in
    let has = subst (λ ls. HasAnds at ls l.node) is l.invariant.has in
    let after = c.after_exp-after.ensures in
    record {
      has = subst (HasAnds at (ands_view c.in-Some.more.now)) (sym after) has.1;
      from = omega (arith, c.if-number-after.false);
      to = omega (arith, l.invariant.to, ap ands_nodes is, after);
      most = omega (arith, l.invariant.most, ap ands_nodes is);
    }

pub node_in_steps-loop-step-preserved : goal.node_in_steps-loop-step-preserved
node_in_steps-loop-step-preserved t c =
    let l = c.loop-step in
    let at = λ (i : ℕ). node_at c.args.code.now i in
    let s = c.in-Some.step.now in
    let more = steps_view c.in-Some.more.now in
    let is = ap steps_view c.in-Some.ensures.cases.0 in
    let has = step_stands at s more l.node (subst (λ ss. HasSteps at ss l.node) is l.invariant.has) in
    let size = ap steps_nodes is ∙ step_size s more in
    let after = c.after_step-after.ensures in
    record {
      has = subst (HasSteps at more) (sym after) has.1;
      from = omega (arith, c.if-number-after.false);
      to = omega (arith, l.invariant.to, size, after);
      most = omega (arith, l.invariant.most, size);
    }

pub node_in_shape-node_in_parts-requires : goal.node_in_shape-node_in_parts-requires
node_in_shape-node_in_parts-requires t c =
    let n = c.args.node in
    let at = λ (i : ℕ). node_at c.args.code.now i in
    let is = ap shape_view c.in-Parts.is in
    let has = subst (λ e. HasExp at e n) is c.requires.has in
    (omega (arith, ap nodes is), (has.1, (omega (arith, c.requires.from), omega (arith, c.requires.to, ap nodes is))))

pub node_in_shape-node_in_operands-requires : goal.node_in_shape-node_in_operands-requires
node_in_shape-node_in_operands-requires t c =
    let n = c.args.node in
    let at = λ (i : ℕ). node_at c.args.code.now i in
    let is = ap shape_view c.in-Chain.is in
    let has = subst (λ e. HasExp at e n) is c.requires.has in
    let after = c.after_exp-after.ensures ∙ ap (λ e. n + 1 + nodes e) c.get-in-Chain.ensures in (
      omega (arith, ap nodes is),
      (
        subst (HasLinks at (operands_view c.in-Chain.rest)) (sym after) has.2,
        (omega (arith, c.if-number-after.false), omega (arith, c.requires.to, ap nodes is, after)),
      ),
    )

pub node_in_shape-node_in_joins-requires : goal.node_in_shape-node_in_joins-requires
node_in_shape-node_in_joins-requires t c =
    let n = c.args.node in
    let at = λ (i : ℕ). node_at c.args.code.now i in
    let is = ap shape_view c.in-Logic.is in
    let has = subst (λ e. HasExp at e n) is c.requires.has in
    let after = c.after_exp-after-in-Logic.ensures ∙ ap (λ e. n + 1 + nodes e) c.get-in-Logic.ensures in (
      omega (arith, ap nodes is),
      (
        subst (HasAnds at (ands_view c.in-Logic.rest.now)) (sym after) has.2,
        (omega (arith, c.if-number-after-2.false), omega (arith, c.requires.to, ap nodes is, after)),
      ),
    )

pub node_in_shape-node_in_steps-requires : goal.node_in_shape-node_in_steps-requires
node_in_shape-node_in_steps-requires t c =
    let n = c.args.node in
    let at = λ (i : ℕ). node_at c.args.code.now i in
    let is = ap shape_view c.in-Postfix.is in
    let has = subst (λ e. HasExp at e n) is c.requires.has in
    let after = c.after_exp-after-in-Postfix.ensures ∙ ap (λ e. n + 1 + nodes e) c.get-in-Postfix.ensures in (
      omega (arith, ap nodes is, nodes_pos c.in-Postfix.first.now),
      (
        subst (HasSteps at (steps_view c.in-Postfix.rest.now)) (sym after) has.2,
        (omega (arith, c.if-number-after-3.false), omega (arith, c.requires.to, ap nodes is, after)),
      ),
    )

pub node_in_step-node_in_parts-requires : goal.node_in_step-node_in_parts-requires
node_in_step-node_in_parts-requires t c =
    let n = c.args.node in
    let at = λ (i : ℕ). node_at c.args.code.now i in
    let has = subst (λ s. HasStep at s n) c.in-Call.is c.requires.has in
    let size = ap step_nodes c.in-Call.is in
    let args = ap exps_nodes c.as_slice.ensures in (
      omega (arith, size, args),
      (
        subst (λ es. HasExps at es n) (sym c.as_slice.ensures) has,
        (omega (arith, c.requires.from), omega (arith, c.requires.to, size, args)),
      ),
    )
