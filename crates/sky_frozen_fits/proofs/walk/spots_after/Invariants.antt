use Rattle.std.proofs.Common.{◌≡◌, ◌≤◌, Some}
use Rattle.sky_base.specs.TreeView.{steps_view}
use Rattle.sky_base_law.specs.Nodes.{node_at}
use Rattle.sky_state.specs.Table.{on_by, past_spot, spot_of}
use Rattle.sky_frozen_fits.specs.Rows.{spot_view, HasSpot, before}
use Rattle.sky_frozen_fits.proofs.walk.spots_after.Given as goal

abbrev pub invariant-loop-passed : goal.invariant-loop-passed
invariant-loop-passed l = record {
  place : on_by past_spot l._passed (spot_of l.second (steps_view l.steps)) ≡ Some (spot_view l.spot);
  has : HasSpot (λ i. node_at l.code i) (spot_view l.spot);
  few : before l.spot ≤ l._passed;
}
