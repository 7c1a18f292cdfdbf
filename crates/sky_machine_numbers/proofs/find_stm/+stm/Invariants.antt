use Rattle.std.proofs.Common.{◌≤◌, ◌<◌, ◌+◌, ◌*◌, ◌-◌, length}
use Rattle.sky_base.specs.Tree.{nodes, stm_nodes, arms_nodes, block_nodes}
use Rattle.sky_base.specs.TreeView.{exp_view}
use Rattle.sky_base.specs.StmtView.{stm_view, arms_view}
use Rattle.sky_base_law.specs.Nodes.{node_at}
use Rattle.sky_base_law.specs.Opened.{HasArms}
use Rattle.sky_machine_numbers.proofs.find_stm.+stm.Given as goal

abbrev pub decreases-node_in_block : goal.decreases-node_in_block
decreases-node_in_block l = 4 * block_nodes l.block.now

abbrev pub decreases-node_in_stmt : goal.decreases-node_in_stmt
decreases-node_in_stmt l = 4 * stm_nodes (stm_view l.s.now)

abbrev pub decreases-node_inside : goal.decreases-node_inside
decreases-node_inside l = 4 * stm_nodes (stm_view l.s.now) - 1

abbrev pub decreases-node_in_both : goal.decreases-node_in_both
decreases-node_in_both l = 4 * (nodes (exp_view l.e.now) + block_nodes l.block.now) + 1

abbrev pub decreases-node_in_arms : goal.decreases-node_in_arms
decreases-node_in_arms l = 4 * arms_nodes (arms_view l.arms.now) + 2

-- ---- loops

abbrev pub invariant-node_in_arms-loop-arm : goal.invariant-node_in_arms-loop-arm
invariant-node_in_arms-loop-arm l = record {
  has : HasArms (λ i. node_at l.code i) (arms_view l.rest) l.node;
  from : l.node ≤ l.number;
  to : l.number < l.node + arms_nodes (arms_view l.rest);
  most : arms_nodes (arms_view l.rest) ≤ arms_nodes (arms_view l.arms);
}

abbrev pub decreases-node_in_arms-loop-arm : goal.decreases-node_in_arms-loop-arm
decreases-node_in_arms-loop-arm l = length l.rest
