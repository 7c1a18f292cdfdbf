-- What was read so far stands in front.
use Rattle.sky_state.specs.StandView.{frames_view}
use Rattle.sky_frozen_bytes.specs.Bytes.{frame_bytes}
use Rattle.sky_frozen_bytes.specs.Codes.{ListRead}
use Rattle.sky_frozen_bytes.specs.Spelled.{FrameSpelled}
use Rattle.sky_frozen_bytes.proofs.read.read_frames.Given as goal

abbrev pub invariant-loop-frame : goal.invariant-loop-frame
invariant-loop-frame l = ListRead frame_bytes FrameSpelled l._frame l.initial.reader (frames_view l.frames.items) l.reader
