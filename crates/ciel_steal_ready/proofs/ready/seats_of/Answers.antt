use Rattle.std.proofs.Common.{◌≡◌, ◌++◌, ◌∷◌, [], length, sym, ap, ◌∙◌, subst, arith, length-append, append_assoc}
use Rattle.std.specs.Prelude.{All}
use Rattle.std.proofs.lemmas.List.Elements.{All-push}
use Rattle.ciel_steal_ready.specs.Seats.{SeatSeen}
use Rattle.ciel_steal_ready.proofs.ready.seats_of.Goals as goal

pub loop-owned-preserved : goal.loop-owned-preserved
loop-owned-preserved g c =
    let i = c.loop-owned.invariant in
    let s = c.in-Some.ensures.steps.0 in
    let n = length-append c.loop-owned.yielded (c.in-Some.owned ∷ []) in
    let p = c.in_ok-push-in-Some-next.ensures.items in
    let m = ap length p ∙ length-append c.loop-owned.seats.items (c.in_ok-seat_of-in-Some-next.field-0 ∷ []) in
    let r = ap length s in
    let q = ap length c.in-Some-next.ensures.items in (
      append_assoc c.loop-owned.yielded (c.in-Some.owned ∷ []) c.next.new.self.rest.items ∙ (ap (λ l. c.loop-owned.yielded ++ l) (sym s) ∙ i.0),
      omega (arith, i.1, n, m),
      omega (arith, i.2, r, q),
      subst (λ xs. All (λ (x : SeatSeen g.row.T.Denot). x.taken ≡ []) xs) (sym p)
          (All-push (λ (x : SeatSeen g.row.T.Denot). x.taken ≡ []) c.loop-owned.seats.items c.in_ok-seat_of-in-Some-next.field-0 i.3
          c.in_ok-seat_of-in-Some-next.ensures),
    )
