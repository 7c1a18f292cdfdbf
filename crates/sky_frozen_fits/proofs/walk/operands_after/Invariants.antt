use Rattle.std.proofs.Common.{◌≡◌, Some}
use Rattle.sky_machine_code.specs.Shapes.{operands_view}
use Rattle.sky_base_law.specs.Nodes.{node_at}
use Rattle.sky_base_law.specs.Opened.{HasLinks}
use Rattle.sky_state.specs.Table.{on_by, past_link}
use Rattle.sky_frozen_fits.proofs.walk.operands_after.Given as goal

abbrev pub invariant-loop-passed : goal.invariant-loop-passed
invariant-loop-passed l = record {
  place : on_by past_link l._passed (l.second, operands_view l.operands) ≡ Some (l.next, operands_view l.rest);
  has : HasLinks (λ i. node_at l.code i) (operands_view l.rest) l.next;
}
