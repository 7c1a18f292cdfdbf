use Rattle.std.proofs.Common.{◌≡◌, ◌<◌, ◌-◌, length, sym, ap, ◌∙◌, subst, arith}
use Rattle.ciel_store.specs.Words.{loss, Has}
use Rattle.ciel_store.proofs.WordSteps.{looks}
use Rattle.ciel_store.proofs.shelves.Shelves.fetch.Goals as goal

pub load-found-requires : goal.load-found-requires
load-found-requires g c =
    let t = ap (λ x. x.of) c.eye.view_is ∙ (c.requires.eye ∙ sym (ap (λ x. x.of) c.self.view_is)) in
    let p = ap (λ x. x.worker) c.place.view_is in
    let r = ap (λ x. length x.rows) c.self.view_is in
    let w : c.place.inside.worker < c.self.inside.words.shared.table_id.words = omega (arith, p, r, c.requires.place.0, c.self.invariant.1) in
    (t, w, looks _ _ _ _ c.eye.inside.seat.me c.eye.invariant.0)

pub returns-then-found-gt0-clause-again : goal.returns-then-found-gt0-clause-again
returns-then-found-gt0-clause-again g c l h e =
    let was = c.load-found.ensures.2.0.before l (subst (λ x. Has x.losses l) (sym c.eye.view_is) h) (e ∙ sym (ap (λ x. x.worker) c.place.view_is)) in
    let n : c.load-found.result - 1 ≡ l.number = omega (arith, was) in
    let w : c.place.inside.worker ≡ l.worker = ap (λ x. x.worker) c.place.view_is ∙ sym e in
    (λ k. loss (n k) (w k))

pub returns-clause-again : goal.returns-clause-again
returns-clause-again g c l h e =
    let was = c.load-found.ensures.2.0.before l (subst (λ x. Has x.losses l) (sym c.eye.view_is) h) (e ∙ sym (ap (λ x. x.worker) c.place.view_is)) in
    omega (arith, was, c.if-found-gt0.false)
