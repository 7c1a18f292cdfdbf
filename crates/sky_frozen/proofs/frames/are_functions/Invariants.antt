-- It holds of all exactly where it holds of those that are left.
use Rattle.std.proofs.Common.{drop}
use Rattle.sky_base_law.specs.Tasks.{Each}
use Rattle.sky_state.specs.StandView.{frames_view}
use Rattle.sky_base_law.specs.Sound.{IsFun}
use Rattle.sky_frozen.proofs.frames.are_functions.Given as goal

abbrev pub invariant-loop-frame : goal.invariant-loop-frame
invariant-loop-frame l =
    (Each (λ f. IsFun l.fitting f.fun) (frames_view (drop l.frame-index l.frames)) → Each (λ f. IsFun l.fitting f.fun) (frames_view l.frames))
    × (Each (λ f. IsFun l.fitting f.fun) (frames_view l.frames)
    → Each (λ f. IsFun l.fitting f.fun) (frames_view (drop l.frame-index l.frames)))
