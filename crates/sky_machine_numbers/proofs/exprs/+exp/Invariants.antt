use Rattle.std.proofs.Common.{◌+◌, ◌*◌, length}
use Rattle.sky_base.specs.TreeView.{exp_view, ands_view, steps_view}
use Rattle.sky_base_law.specs.Nodes.{pre_exp, pre_exps, pre_links, pre_ands, pre_steps}
use Rattle.sky_machine_code.specs.Shapes.{shape_view, rest_view, operands_view}
use Rattle.sky_machine_numbers.specs.Filled.{in_exp, in_step}
use Rattle.sky_machine_numbers.proofs.FilledLemmas.{Left}
use Rattle.sky_machine_numbers.proofs.exprs.+exp.Given as goal

abbrev pub decreases-number_exp : goal.decreases-number_exp
decreases-number_exp l = 4 * length (pre_exp (exp_view l.e.now))

abbrev pub decreases-number_inside : goal.decreases-number_inside
decreases-number_inside l = 4 * length (in_exp (shape_view l.shape)) + 3

abbrev pub decreases-number_parts : goal.decreases-number_parts
decreases-number_parts l = 4 * length (pre_exps (rest_view l.parts)) + 1

abbrev pub decreases-number_operands : goal.decreases-number_operands
decreases-number_operands l = 4 * length (pre_links (operands_view l.operands)) + 1

abbrev pub decreases-number_joins : goal.decreases-number_joins
decreases-number_joins l = 4 * length (pre_ands (ands_view l.joins.now)) + 1

abbrev pub decreases-number_steps : goal.decreases-number_steps
decreases-number_steps l = 4 * length (pre_steps (steps_view l.steps.now)) + 3

abbrev pub decreases-number_step : goal.decreases-number_step
decreases-number_step l = 4 * length (in_step l.step.now) + 2

-- ---- loops

abbrev pub invariant-number_parts-loop-next : goal.invariant-number_parts-loop-next
invariant-number_parts-loop-next l =
    Left l.fn.ends.items l.ends.items (pre_exps (rest_view l.parts)) (pre_exps (rest_view l.rest))

abbrev pub decreases-number_parts-loop-next : goal.decreases-number_parts-loop-next
decreases-number_parts-loop-next l = length (pre_exps (rest_view l.rest))

abbrev pub invariant-number_operands-loop-next : goal.invariant-number_operands-loop-next
invariant-number_operands-loop-next l =
    Left l.fn.ends.items l.ends.items (pre_links (operands_view l.operands)) (pre_links (operands_view l.rest))

abbrev pub decreases-number_operands-loop-next : goal.decreases-number_operands-loop-next
decreases-number_operands-loop-next l = length (pre_links (operands_view l.rest))

abbrev pub invariant-number_joins-loop-join : goal.invariant-number_joins-loop-join
invariant-number_joins-loop-join l =
    Left l.fn.ends.items l.ends.items (pre_ands (ands_view l.joins)) (pre_ands (ands_view l.rest))

abbrev pub decreases-number_joins-loop-join : goal.decreases-number_joins-loop-join
decreases-number_joins-loop-join l = length l.rest

abbrev pub invariant-number_steps-loop-step : goal.invariant-number_steps-loop-step
invariant-number_steps-loop-step l =
    Left l.fn.ends.items l.ends.items (pre_steps (steps_view l.steps)) (pre_steps (steps_view l.rest))

abbrev pub decreases-number_steps-loop-step : goal.decreases-number_steps-loop-step
decreases-number_steps-loop-step l = length l.rest
