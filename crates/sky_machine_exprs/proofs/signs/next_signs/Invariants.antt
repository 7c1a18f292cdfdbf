use Rattle.std.proofs.Common.{◌≡◌, ◌≤◌, ◌+◌, ℕ, List, length, reverse, take}
use Rattle.sky_base.specs.Kept.{Kept}
use Rattle.sky_base.specs.View.{view}
use Rattle.sky_base.specs.TreeView.{signs_view}
use Rattle.sky_base.specs.Res.{visits}
use Rattle.sky_base.specs.Eval.{World, signs}
use Rattle.sky_machine_exprs.proofs.signs.next_signs.Given as goal

abbrev pub invariant-loop-left : goal.invariant-loop-left
invariant-loop-left l = record {
  within : l.left ≤ length l.signs;
  kept : Kept (view l.v);
  few : l.state.count ≤ visits;
  more : l.fn.state.count ≤ l.state.count;
  steps : l.step + l.left ≡ l.fn.step + length l.signs;
  still : l.entries.items ≡ l.fn.entries.items;
  same : (w : World (List ℕ)) → signs w (reverse (signs_view (take l.left l.signs))) l.node l.step (view l.v) l.state
      ≡ signs w (reverse (signs_view l.signs)) l.node l.fn.step (view l.fn.v) l.fn.state;
}

abbrev pub decreases-loop-left : goal.decreases-loop-left
decreases-loop-left l = l.left
