-- The node is among what is left exactly where it is among all.
use Rattle.std.proofs.Common.{◌+◌, ◌++◌, length}
use Rattle.sky_base.specs.Tree.{arms_nodes}
use Rattle.sky_base.specs.StmtView.{arms_view}
use Rattle.sky_base_law.specs.Nodes.{node_at}
use Rattle.sky_base_law.specs.Opened.{HasArms}
use Rattle.sky_base_law.specs.Tasks.{In}
use Rattle.sky_machine_entries.specs.Entries.{last_block}
use Rattle.sky_state.specs.Table.{arm_blocks, else_block}
use Rattle.sky_frozen_fits.proofs.places.arm_at.Given as goal

abbrev pub invariant-loop-arm : goal.invariant-loop-arm
invariant-loop-arm l = record {
  has : HasArms (λ i. node_at l.code i) (arms_view l.rest) l.at;
  all : In l.node (arm_blocks l.at (arms_view l.rest) ++ else_block (l.at + arms_nodes (arms_view l.rest)) (last_block l.otherwise))
      → In l.node (arm_blocks l.first (arms_view l.arms) ++ else_block (l.first + arms_nodes (arms_view l.arms)) (last_block l.otherwise));
  left : In l.node (arm_blocks l.first (arms_view l.arms) ++ else_block (l.first + arms_nodes (arms_view l.arms)) (last_block l.otherwise))
      → In l.node (arm_blocks l.at (arms_view l.rest) ++ else_block (l.at + arms_nodes (arms_view l.rest)) (last_block l.otherwise));
}

abbrev pub decreases-loop-arm : goal.decreases-loop-arm
decreases-loop-arm l = length l.rest
