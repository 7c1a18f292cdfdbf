use Rattle.std.proofs.Common.{◌≡◌, ◌+◌}
use Rattle.sky_base.specs.Tree.{arms_nodes}
use Rattle.sky_base.specs.StmtView.{arms_view}
use Rattle.sky_base_law.specs.Nodes.{node_at}
use Rattle.sky_base_law.specs.Opened.{HasArms, next_arm, times}
use Rattle.sky_machine_open.proofs.stmt.open_arm.Given as goal

abbrev pub invariant-loop-passed : goal.invariant-loop-passed
invariant-loop-passed l = record {
  place : times next_arm l._passed (l.next, arms_view l.arms) ≡ (l.at, arms_view l.rest);
  has : HasArms (λ i. node_at l.code i) (arms_view l.rest) l.at;
  end : l.at + arms_nodes (arms_view l.rest) ≡ l.next + arms_nodes (arms_view l.arms);
}
