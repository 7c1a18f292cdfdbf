use Rattle.std.proofs.Common.{◌≡◌, ◌++◌, ◌∷◌, [], length, ap, ◌∙◌, arith}
use Rattle.std.specs.Vec.{vec_len}
use Rattle.sky_machine_numbers.proofs.PartsLemmas.{parted_next}
use Rattle.sky_machine_numbers.proofs.parts.list_parts.Goals as goal

pub loop-node-preserved : goal.loop-node-preserved
loop-node-preserved c =
    let l = c.loop-node in
    let many : vec_len l.parts ≡ length l.parts.items = omega (arith, l.parts.ok.0) in
    let pushed = c.in-Ok.ensures.items ∙ ap (λ k. l.firsts.items ++ k ∷ []) (c.len.ensures ∙ many) in
    parted_next c.args.ends.now l.firsts.items l.parts.items c.push.new.self.items c.list_parts_of.new.parts.items l.node l.invariant pushed
    c.in_ok-list_parts_of.ensures
