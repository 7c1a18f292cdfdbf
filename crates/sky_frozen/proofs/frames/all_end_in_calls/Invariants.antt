-- It holds of all exactly where it holds of those that are left.
use Rattle.std.proofs.Common.{drop}
use Rattle.sky_base_law.specs.Tasks.{Each}
use Rattle.sky_state.specs.StandView.{frames_view}
use Rattle.sky_frozen.specs.Ends.{EndsInCall}
use Rattle.sky_frozen.proofs.frames.all_end_in_calls.Given as goal

abbrev pub invariant-loop-frame : goal.invariant-loop-frame
invariant-loop-frame l =
    (Each (EndsInCall l.fitting) (frames_view (drop l.frame-index l.frames)) → Each (EndsInCall l.fitting) (frames_view l.frames))
    × (Each (EndsInCall l.fitting) (frames_view l.frames) → Each (EndsInCall l.fitting) (frames_view (drop l.frame-index l.frames)))
