use Rattle.std.proofs.Common.{◌≡◌, ◌+◌, length}
use Rattle.sky_base.specs.Tree.{arms_nodes}
use Rattle.sky_base.specs.StmtView.{arms_view}
use Rattle.sky_base_law.specs.Nodes.{node_at}
use Rattle.sky_base_law.specs.Opened.{HasArms}
use Rattle.sky_machine_numbers.proofs.find_stm.after_arms.Given as goal

abbrev pub invariant-loop-arm : goal.invariant-loop-arm
invariant-loop-arm l = record {
  has : HasArms (λ i. node_at l.code i) (arms_view l.rest) l.node;
  end : l.node + arms_nodes (arms_view l.rest) ≡ l.fn.node + arms_nodes (arms_view l.arms);
}

abbrev pub decreases-loop-arm : goal.decreases-loop-arm
decreases-loop-arm l = length l.rest
