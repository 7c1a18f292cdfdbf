use Rattle.std.proofs.Common.{◌≡◌, ◌≤◌, ◌∷◌, ◌++◌, ◌∙◌, [], ◌-◌, false, length, take, ap, arith}
use Rattle.std.specs.Vec.{vec_len}
use Rattle.sky_base_known.specs.Walk.{is_held, most_rows}
use Rattle.sky_base_known.specs.HeldView.{row_of, rows_of}
use Rattle.sky_base_known.specs.declared.rows.Held.{Held}
use Rattle.sky_base_known.proofs.Learn.{most_is}
use Rattle.sky_base_known.proofs.Places.{apart-more, length-rows}
use Rattle.sky_base_known.proofs.Found.{finds-more, finds-still, popped}
use Rattle.sky_base_known.proofs.rows.Rows.add.Goals as goal

pub invariant_of-self-in-Ok-insert : goal.invariant_of-self-in-Ok-insert
invariant_of-self-in-Ok-insert c =
    let hs = c.self.inside.items.items in
    let h : Held = record { desc = c.args.desc; earlier = c.copied-earlier.result } in
    let e : c.push.new.self.items ≡ hs ++ h ∷ [] = c.in-Ok.ensures.items in
    let new : is_held (row_of h) (rows_of hs) ≡ false = rw c.self.view_is c.requires.new in
    let room : length (hs ++ h ∷ []) ≤ most_rows = omega (arith, most_is, length-rows hs, ap length c.self.view_is, ap length e) in
    let number : c.len-number.result ≡ length hs = omega (arith, c.self.inside.items.ok.0) in
    rw e (
      apart-more hs h c.self.invariant.0 new,
      room,
      finds-more c.self.inside.latest c.insert.new.self hs h c.sum-sum.result c.len-number.result c.self.invariant.2 c.sum-sum.ensures
          (c.copied-earlier.ensures ∙ c.get.ensures.value) number c.in-Ok-insert.ensures.updates,
    )

pub invariant_of-self-in_default-insert : goal.invariant_of-self-in_default-insert
invariant_of-self-in_default-insert c =
    let hs = c.self.inside.items.items in
    let h : Held = record { desc = c.args.desc; earlier = c.copied-earlier.result } in
    let e : c.push.new.self.items ≡ hs ++ h ∷ [] = c.in-Ok.ensures.items in
    let rest : c.pop.new.self.items ≡ take (vec_len c.push.new.self - 1) c.push.new.self.items = c.pop.ensures.rest in
    let long : length c.push.new.self.items ≡ vec_len c.push.new.self = omega (arith, c.push.new.self.ok.0) in
    let same : c.pop.new.self.items ≡ hs = popped hs c.push.new.self.items c.pop.new.self.items h (vec_len c.push.new.self) e long rest in
    rw same (
      c.self.invariant.0,
      c.self.invariant.1,
      finds-still c.self.inside.latest c.insert.new.self hs c.in_default-insert.ensures.err c.self.invariant.2,
    )
