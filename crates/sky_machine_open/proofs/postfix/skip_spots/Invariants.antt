use Rattle.std.proofs.Common.{◌≡◌}
use Rattle.sky_base.specs.TreeView.{steps_view}
use Rattle.sky_base_law.specs.Nodes.{node_at}
use Rattle.sky_base_law.specs.Opened.{enter_pos, next_pos, times}
use Rattle.sky_machine_open.specs.Spots.{HasPos, pos_view}
use Rattle.sky_machine_open.proofs.postfix.skip_spots.Given as goal

abbrev pub invariant-loop-passed : goal.invariant-loop-passed
invariant-loop-passed l = record {
  place : pos_view l.spot ≡ times next_pos l._passed (enter_pos l.second (steps_view l.steps));
  has : HasPos (λ i. node_at l.code i) (pos_view l.spot);
}
