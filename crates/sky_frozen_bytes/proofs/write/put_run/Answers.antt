-- Each part stands behind what was written before it.
use Rattle.std.proofs.Common.{◌++◌, [], ◌∷◌, ap, ◌∙◌, append_assoc}
use Rattle.sky_base.specs.Name.{big_endian}
use Rattle.sky_frozen_bytes.specs.Bytes.{counted, frame_bytes}
use Rattle.sky_frozen_bytes.proofs.write.put_run.Goals as goal

pub returns : goal.returns
returns c =
    let count = big_endian 4 c.args.run.now.count in
    let waits = big_endian 4 c.args.run.now.waits in
    let frames = counted frame_bytes c.args.run.now.frames in
    c.in_ok-put_frames.ensures
    ∙ ap (λ fs. c.number-2.new.self ++ counted frame_bytes fs) c.as_slice.ensures
    ∙ ap (λ o. o ++ frames) c.in_ok-number-2.ensures
    ∙ append_assoc c.number.new.self waits frames
    ∙ ap (λ o. o ++ (waits ++ frames)) c.in_ok-number.ensures
    ∙ append_assoc c.raw.new.self count (waits ++ frames)
    ∙ ap (λ o. o ++ (count ++ (waits ++ frames))) c.in_ok-raw.ensures
    ∙ append_assoc c.args.out.now (75 ∷ 1 ∷ 0 ∷ []) (count ++ (waits ++ frames))
