use Rattle.std.proofs.Common.{arith}
use Rattle.ciel_name.proofs.DecodeSteps.{refuses_more}
use Rattle.sky_frozen_bytes.specs.Bytes.{frame_bytes}
use Rattle.sky_frozen_bytes.specs.Spelled.{FrameSpelled}
use Rattle.sky_state.specs.StandView.{frames_view}
use Rattle.sky_frozen_bytes.proofs.Codes.{list_none, no_items}
use Rattle.sky_frozen_bytes.proofs.Parts.{frames_free}
use Rattle.sky_frozen_bytes.proofs.read.read_frames.Goals as goal

pub returns-in-Err-clause-refused : goal.returns-in-Err-clause-refused
returns-in-Err-clause-refused c =
    let l = c.loop-frame in
    refuses_more c.in-Err.refusal (λ none. no_items frame_bytes FrameSpelled c.args.reader.now c.in-Some.count c.number.new.self
    c.in-Some.ensures (omega arith) (list_none frame_bytes FrameSpelled frames_free l._frame c.in-Some.count c.number.new.self
    (frames_view l.frames.items) l.reader l.invariant (omega arith) none)) c.in-Err.ensures.refused
