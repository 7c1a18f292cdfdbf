use Rattle.std.proofs.Common.{◌≡◌, take}
use Rattle.sky_base.specs.Val.{vals_refs}
use Rattle.sky_state.specs.Pending.{frames_refs}
use Rattle.sky_state.specs.StandView.{frames_view}
use Rattle.sky_state.proofs.state.all_values.Given as goal

abbrev pub invariant-loop-frame : goal.invariant-loop-frame
invariant-loop-frame l = vals_refs l.values ≡ frames_refs (frames_view (take l.frame-index l.frames))
