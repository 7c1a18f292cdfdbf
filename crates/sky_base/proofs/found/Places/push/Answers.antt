use Rattle.std.proofs.Common.{◌≡◌, ◌<◌, length, refl, ap, ◌∙◌, arith}
use Rattle.sky_base.specs.Places.{slot_of}
use Rattle.sky_base.proofs.Placed.{placed_more}
use Rattle.sky_base.proofs.found.Places.push.Goals as goal

pub returns-clause-same : goal.returns-clause-same
returns-clause-same c =
    let p = c.args.self.now in
    let n = c.args.name.now in
    let at = c.slot-slot.result in
    let long : c.len.result ≡ length p.latest.items = omega (arith, c.len.ensures, p.latest.ok.0) in
    let is : at ≡ slot_of p.turn (length p.latest.items) n = c.slot-slot.ensures.value ∙ ap (λ k. slot_of p.turn k n) long in
    let inside : at < length p.latest.items = omega arith in
    placed_more p.turn p.latest.items p.earlier.items c.args.names.now n c.requires.same at is inside c.requires.room c.index-last.result.now
    c.index-last.ensures _ _ refl c.in-Ok.ensures.items
