use Rattle.std.proofs.Common.{◌<◌, ◌^◌, length, sym, refl, ap, ◌∙◌, arith}
use Rattle.ciel_store.specs.Seen.{marked}
use Rattle.ciel_store.proofs.WordSteps.{marks}
use Rattle.ciel_store.proofs.MarkerList.{marked_is}
use Rattle.ciel_store.proofs.shelves.Shelves.mark_lost.Goals as goal

pub compare_exchange-requires : goal.compare_exchange-requires
compare_exchange-requires g c =
    let t = ap (λ x. x.of) c.marker.view_is ∙ (c.requires.of ∙ sym (ap (λ x. x.of) c.self.view_is)) in
    let r = ap (λ x. length x.rows) c.self.view_is in
    let w : c.args.loss.worker < c.self.inside.words.shared.table_id.words = omega (arith, r, c.requires.worker, c.self.invariant.1) in
    let k : c.args.loss.worker < c.self.inside.words.shared.key = omega (arith, r, c.requires.worker, c.self.invariant.0) in
    let small : c.from.result < 2 ^ 32 = omega (arith, c.from.ensures) in
    (t, w, marks _ _ _ _ c.from.result c.marker.inside.seat.me c.marker.invariant.0 k small)

pub returns : goal.returns
returns g c =
    let h = c.compare_exchange.ensures in
    let own = marked_is c.args.loss.worker c.from.result c.marker.inside.seat.me.0 c.compare_exchange.new.seat.me.0 c.compare_exchange.result
    c.args.loss refl c.from.ensures h.2.0 in
    let now = c.marker.view_is in
    λ k. record {
      of = (h.0 ∙ ap (λ x. x.of) now) k;
      losses = (own ∙ ap (λ x. marked x.losses c.args.loss) now) k;
    }
