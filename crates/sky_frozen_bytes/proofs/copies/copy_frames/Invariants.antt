-- The copies so far stand for the frames so far.
use Rattle.std.proofs.Common.{◌≡◌, take}
use Rattle.sky_state.specs.StandView.{frames_view}
use Rattle.sky_frozen_bytes.proofs.copies.copy_frames.Given as goal

abbrev pub invariant-loop-frame : goal.invariant-loop-frame
invariant-loop-frame l = frames_view l.copies.items ≡ frames_view (take l.frame-index l.frames)
