use Rattle.std.proofs.Common.{◌≡◌, ◌∷◌, [], length, sym, ap, ◌∙◌, subst, arith, length-append, None}
use Rattle.std.specs.Prelude.{All}
use Rattle.std.proofs.lemmas.List.Elements.{All-push}
use Rattle.ciel_crew_lanes.specs.Seen.{LaneSeen}
use Rattle.ciel_steal_pool.proofs.pool.sides_of.Goals as goal

pub loop-preserved : goal.loop-preserved
loop-preserved g c =
    let i = c.loop.invariant in
    let p = c.in_ok-push.ensures.items in
    let n = ap length p ∙ length-append c.loop.places.items (c.in_ok-place.place ∷ []) in (
      omega (arith, i.0, n),
      subst (λ xs. All (λ x. x ≡ record { put = []; out = None }) xs) (sym p)
          (All-push (λ (x : LaneSeen g.row.W-In.Denot). x ≡ record { put = []; out = None }) c.loop.places.items c.in_ok-place.place i.1
          c.in_ok-place.ensures.fresh),
    )
