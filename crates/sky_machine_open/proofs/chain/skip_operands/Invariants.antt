use Rattle.std.proofs.Common.{◌≡◌}
use Rattle.sky_base_law.specs.Nodes.{node_at}
use Rattle.sky_base_law.specs.Opened.{HasLinks, next_link, times}
use Rattle.sky_machine_code.specs.Shapes.{operands_view}
use Rattle.sky_machine_open.proofs.chain.skip_operands.Given as goal

abbrev pub invariant-loop-passed : goal.invariant-loop-passed
invariant-loop-passed l = record {
  place : times next_link l._passed (l.second, operands_view l.operands) ≡ (l.next, operands_view l.rest);
  has : HasLinks (λ i. node_at l.code i) (operands_view l.rest) l.next;
}
