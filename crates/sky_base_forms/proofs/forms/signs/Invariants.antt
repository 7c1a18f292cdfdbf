use Rattle.std.proofs.Common.{◌≡◌, ◌≤◌, length, List, reverse, take}
use Rattle.sky_base.specs.Kept.{Kept}
use Rattle.sky_base.specs.View.{view}
use Rattle.sky_base.specs.TreeView.{signs_view}
use Rattle.sky_base_known.specs.Walk.{Row}
use Rattle.sky_base_scope.specs.Plain.{signs}
use Rattle.sky_base_forms.specs.GroundView.{ground_of}
use Rattle.sky_base_forms.proofs.forms.signs.Given as goal

abbrev pub invariant-loop-left : goal.invariant-loop-left
invariant-loop-left l = record {
  within : l.left ≤ length l.signs;
  kept : Kept (view l.v);
  same : (rows : List Row) → signs (ground_of l.ground) (reverse (signs_view l.signs)) (view l.fn.first) rows l.fn.state
      ≡ signs (ground_of l.ground) (reverse (signs_view (take l.left l.signs))) (view l.v) rows l.state;
}

abbrev pub decreases-loop-left : goal.decreases-loop-left
decreases-loop-left l = l.left
