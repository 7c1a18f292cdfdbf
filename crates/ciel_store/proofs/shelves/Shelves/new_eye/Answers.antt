use Rattle.std.proofs.Common.{sym, ap, ◌∙◌, arith}
use Rattle.ciel_store.proofs.WordSteps.{begins_eye}
use Rattle.ciel_store.proofs.shelves.Shelves.new_eye.Goals as goal

pub split_seat-seat-requires : goal.split_seat-seat-requires
split_seat-seat-requires g c =
    let t = ap (λ x. x.of) c.marker.view_is ∙ (c.requires ∙ sym (ap (λ x. x.of) c.self.view_is)) in
    (t, omega (arith, c.self.invariant.1, c.self.invariant.2), begins_eye _ _ c.marker.inside.seat.me.0)
