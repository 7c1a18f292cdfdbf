use Rattle.std.proofs.Common.{◌+◌, ◌-◌, [], ◌∷◌, get_or, bit_and, ap, ◌∙◌}
use Rattle.std.specs.Int.{w32, from_le_bytes}
use Rattle.sky_base.specs.Places.{folded, slot_of}
use Rattle.sky_base.proofs.found.slot.Goals as goal

pub returns-clause-value : goal.returns-clause-value
unfolding slot_of
returns-clause-value c =
    let t = c.args.turn in
    ap (λ k. bit_and (folded k) (c.args.size - 1)) (c.from_le_bytes-key.ensures
    ∙ ap (λ n. from_le_bytes w32 (get_or n t 0 ∷ get_or n (t + 1) 0 ∷ get_or n (t + 2) 0 ∷ get_or n (t + 3) 0 ∷ [])) c.bytes-bytes.ensures.bytes)
