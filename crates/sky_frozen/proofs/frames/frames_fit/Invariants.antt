-- It holds of all exactly where it holds of those that are left.
use Rattle.std.proofs.Common.{drop}
use Rattle.sky_base_law.specs.Tasks.{Each}
use Rattle.sky_state.specs.StandView.{frames_view}
use Rattle.sky_state.specs.Fits.{FitsFrame}
use Rattle.sky_frozen.proofs.frames.frames_fit.Given as goal

abbrev pub invariant-loop-frame : goal.invariant-loop-frame
invariant-loop-frame l =
    (Each (FitsFrame l.fitting) (frames_view (drop l.frame-index l.frames)) → Each (FitsFrame l.fitting) (frames_view l.frames))
    × (Each (FitsFrame l.fitting) (frames_view l.frames) → Each (FitsFrame l.fitting) (frames_view (drop l.frame-index l.frames)))
