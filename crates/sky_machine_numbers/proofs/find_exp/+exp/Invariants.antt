use Rattle.std.proofs.Common.{◌≤◌, ◌<◌, ◌+◌, ◌*◌, ◌-◌, length}
use Rattle.sky_base.specs.Tree.{nodes, exps_nodes, links_nodes, ands_nodes, steps_nodes}
use Rattle.sky_base.specs.TreeView.{exp_view, ands_view, steps_view, step_nodes}
use Rattle.sky_base_law.specs.Nodes.{node_at}
use Rattle.sky_base_law.specs.Opened.{HasExps, HasLinks, HasAnds, HasSteps}
use Rattle.sky_machine_code.specs.Shapes.{shape_view, rest_view, operands_view}
use Rattle.sky_machine_numbers.proofs.find_exp.+exp.Given as goal

abbrev pub decreases-node_in_exp : goal.decreases-node_in_exp
decreases-node_in_exp l = 4 * nodes (exp_view l.e.now)

abbrev pub decreases-node_in_shape : goal.decreases-node_in_shape
decreases-node_in_shape l = 4 * nodes (shape_view l.shape) - 1

abbrev pub decreases-node_in_parts : goal.decreases-node_in_parts
decreases-node_in_parts l = 4 * exps_nodes (rest_view l.parts) + 1

abbrev pub decreases-node_in_operands : goal.decreases-node_in_operands
decreases-node_in_operands l = 4 * links_nodes (operands_view l.operands) + 1

abbrev pub decreases-node_in_joins : goal.decreases-node_in_joins
decreases-node_in_joins l = 4 * ands_nodes (ands_view l.joins.now) + 1

abbrev pub decreases-node_in_steps : goal.decreases-node_in_steps
decreases-node_in_steps l = 4 * steps_nodes (steps_view l.steps.now) + 3

abbrev pub decreases-node_in_step : goal.decreases-node_in_step
decreases-node_in_step l = 4 * step_nodes l.step.now + 2

-- ---- loops

abbrev pub invariant-node_in_parts-loop-next : goal.invariant-node_in_parts-loop-next
invariant-node_in_parts-loop-next l = record {
  has : HasExps (λ i. node_at l.code i) (rest_view l.rest) l.node;
  from : l.node ≤ l.number;
  to : l.number < l.node + exps_nodes (rest_view l.rest);
  most : exps_nodes (rest_view l.rest) ≤ exps_nodes (rest_view l.parts);
}

abbrev pub decreases-node_in_parts-loop-next : goal.decreases-node_in_parts-loop-next
decreases-node_in_parts-loop-next l = exps_nodes (rest_view l.rest)

abbrev pub invariant-node_in_operands-loop-next : goal.invariant-node_in_operands-loop-next
invariant-node_in_operands-loop-next l = record {
  has : HasLinks (λ i. node_at l.code i) (operands_view l.rest) l.node;
  from : l.node ≤ l.number;
  to : l.number < l.node + links_nodes (operands_view l.rest);
  most : links_nodes (operands_view l.rest) ≤ links_nodes (operands_view l.operands);
}

abbrev pub decreases-node_in_operands-loop-next : goal.decreases-node_in_operands-loop-next
decreases-node_in_operands-loop-next l = links_nodes (operands_view l.rest)

abbrev pub invariant-node_in_joins-loop-join : goal.invariant-node_in_joins-loop-join
invariant-node_in_joins-loop-join l = record {
  has : HasAnds (λ i. node_at l.code i) (ands_view l.rest) l.node;
  from : l.node ≤ l.number;
  to : l.number < l.node + ands_nodes (ands_view l.rest);
  most : ands_nodes (ands_view l.rest) ≤ ands_nodes (ands_view l.joins);
}

abbrev pub decreases-node_in_joins-loop-join : goal.decreases-node_in_joins-loop-join
decreases-node_in_joins-loop-join l = length l.rest

abbrev pub invariant-node_in_steps-loop-step : goal.invariant-node_in_steps-loop-step
invariant-node_in_steps-loop-step l = record {
  has : HasSteps (λ i. node_at l.code i) (steps_view l.rest) l.node;
  from : l.node ≤ l.number;
  to : l.number < l.node + steps_nodes (steps_view l.rest);
  most : steps_nodes (steps_view l.rest) ≤ steps_nodes (steps_view l.steps);
}

abbrev pub decreases-node_in_steps-loop-step : goal.decreases-node_in_steps-loop-step
decreases-node_in_steps-loop-step l = length l.rest
