-- What is left to write stands behind what was written.
use Rattle.std.proofs.Common.{◌≡◌, ◌++◌, flat_map, drop}
use Rattle.sky_frozen_bytes.specs.Bytes.{frame_bytes}
use Rattle.sky_state.specs.StandView.{frames_view}
use Rattle.sky_frozen_bytes.proofs.write.put_frames.Given as goal

abbrev pub invariant-loop-frame : goal.invariant-loop-frame
invariant-loop-frame l =
    l.initial.out ++ flat_map frame_bytes (frames_view l.frames) ≡ l.out ++ flat_map frame_bytes (frames_view (drop l.frame-index l.frames))
