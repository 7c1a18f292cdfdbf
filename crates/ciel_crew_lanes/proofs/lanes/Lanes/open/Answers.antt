use Rattle.std.proofs.Common.{◌≡◌, ◌∷◌, [], length, sym, ap, ◌∙◌, subst, arith, length-append, None}
use Rattle.std.specs.Prelude.{All}
use Rattle.std.proofs.lemmas.List.Elements.{All-push}
use Rattle.ciel_crew_lanes.specs.Seen.{LaneSeen}
use Rattle.ciel_crew_lanes.proofs.lanes.Lanes.open.Goals as goal

pub loop-place-preserved : goal.loop-place-preserved
loop-place-preserved g c =
    let i = c.loop-place.invariant in
    let s = ap length c.in-Some.ensures.steps.0 in
    let p = c.push_reserved.ensures.items in
    let n = ap length p ∙ length-append c.loop-place.all.items (c.staffed.result ∷ []) in (
      omega (arith, i.0, s, n),
      c.push_reserved.ensures.capacity ∙ i.1,
      subst (λ xs. All (λ x. x ≡ record { put = []; out = None }) xs) (sym p)
          (All-push (λ (x : LaneSeen g.row.W-In.Denot). x ≡ record { put = []; out = None }) c.loop-place.all.items c.staffed.result i.2
          c.staffed.ensures),
    )
