use Rattle.std.proofs.Common.{◌≡◌, Some}
use Rattle.sky_base.specs.StmtView.{arms_view}
use Rattle.sky_base_law.specs.Nodes.{node_at}
use Rattle.sky_base_law.specs.Opened.{HasArms}
use Rattle.sky_state.specs.Table.{on_by, past_arm}
use Rattle.sky_frozen_fits.proofs.walk.arms_after.Given as goal

abbrev pub invariant-loop-passed : goal.invariant-loop-passed
invariant-loop-passed l = record {
  place : on_by past_arm l._passed (l.first, arms_view l.arms) ≡ Some (l.next, arms_view l.rest);
  has : HasArms (λ i. node_at l.code i) (arms_view l.rest) l.next;
}
