use Rattle.std.proofs.Common.{sym, ap, ◌∙◌, arith, subst}
use Rattle.ciel_store.specs.Words.{Has}
use Rattle.ciel_store.proofs.WordSteps.{takes, confirms}
use Rattle.ciel_store.proofs.shelves.Shelves.confirm.Goals as goal

pub join_seat-requires : goal.join_seat-requires
join_seat-requires g c =
    let t = ap (λ x. x.of) c.marker.view_is ∙ (c.requires.0 ∙ sym (ap (λ x. x.of) c.self.view_is)) in
    let u = ap (λ x. x.of) c.seen.view_is ∙ (c.requires.1 ∙ sym (ap (λ x. x.of) c.self.view_is)) in (
      t,
      u,
      c.seen.invariant.1,
      omega (arith, c.self.invariant.1, c.self.invariant.2),
      takes _ _ c.marker.inside.seat.me.0 _ c.seen.inside.seat.me.0 c.marker.invariant.0,
    )

pub load-requires : goal.load-requires
load-requires g c =
    let t = ap (λ x. x.of) c.marker.view_is ∙ (c.requires.0 ∙ sym (ap (λ x. x.of) c.self.view_is)) in (
      c.join_seat.ensures.0 ∙ t,
      omega (arith, c.self.invariant.1, c.self.invariant.2),
      confirms _ _ _ _ c.join_seat.new.seat.me (ap (λ x. x.0.marks) c.join_seat.ensures.2),
    )

pub returns-clause-confirmed : goal.returns-clause-confirmed
returns-clause-confirmed g c l h =
    let in_seen = subst (λ x. Has x.losses l) (sym c.seen.view_is) h in
    let beside = subst (λ x. Has x l) (sym (ap (λ x. x.0.beside) c.join_seat.ensures.2)) in_seen in
    subst (λ x. Has x.0.own l) (sym c.load.ensures.2.0) (c.load.ensures.2.1 l beside)
