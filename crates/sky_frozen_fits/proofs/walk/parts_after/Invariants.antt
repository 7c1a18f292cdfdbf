use Rattle.std.proofs.Common.{◌≡◌, Some}
use Rattle.sky_machine_code.specs.Shapes.{rest_view}
use Rattle.sky_base_law.specs.Nodes.{node_at}
use Rattle.sky_base_law.specs.Opened.{HasExps}
use Rattle.sky_state.specs.Table.{on_by, past_part}
use Rattle.sky_frozen_fits.proofs.walk.parts_after.Given as goal

abbrev pub invariant-loop-passed : goal.invariant-loop-passed
invariant-loop-passed l = record {
  place : on_by past_part l._passed (l.first, rest_view l.parts) ≡ Some (l.next, rest_view l.rest);
  has : HasExps (λ i. node_at l.code i) (rest_view l.rest) l.next;
}
