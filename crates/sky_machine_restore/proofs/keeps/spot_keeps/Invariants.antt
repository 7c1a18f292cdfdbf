-- What is kept at the place is what is kept at the rest of it among the steps that are left.
use Rattle.std.proofs.Common.{◌≡◌, drop}
use Rattle.sky_base.specs.TreeView.{steps_view}
use Rattle.sky_machine_restore.specs.Kept.{kept_after}
use Rattle.sky_machine_restore.proofs.keeps.spot_keeps.Given as goal

abbrev pub invariant-loop-step : goal.invariant-loop-step
invariant-loop-step l = kept_after (steps_view l.steps) l.count ≡ kept_after (steps_view (drop l.step-index l.steps)) l.left
