use Rattle.std.proofs.Common.{◌≡◌, ◌+◌, drop}
use Rattle.sky_base.specs.Tree.{block_nodes, stms_nodes, arms_nodes}
use Rattle.sky_base.specs.StmtView.{stms_view, arms_view}
use Rattle.sky_base.proofs.stmt.+nodes.Given as goal

abbrev pub invariant-Block::nodes-loop-stmt : goal.invariant-Block::nodes-loop-stmt
invariant-Block::nodes-loop-stmt l = l.total + stms_nodes (stms_view (drop l.stmt-index l.stmt-items)) ≡ block_nodes l.self

abbrev pub invariant-Arms::nodes-loop-arm : goal.invariant-Arms::nodes-loop-arm
invariant-Arms::nodes-loop-arm l = l.total + arms_nodes (arms_view (drop l.arm-index l.arm-items)) ≡ arms_nodes l.self
