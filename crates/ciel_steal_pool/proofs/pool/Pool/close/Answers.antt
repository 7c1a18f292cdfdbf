use Rattle.std.proofs.Common.{◌≡◌, ◌≢◌, ◌<◌, ◌++◌, ◌∷◌, [], ℕ, List, length, take, sym, ap, ◌∙◌, subst, arith, length-set}
use Rattle.std.specs.Prelude.{None}
use Rattle.std.proofs.lemmas.List.{get_or-set_other, take_more, length-take-le}
use Rattle.ciel_crew_lanes.specs.Seen.{LaneSeen, lane_at, Closes}
use Rattle.ciel_crew_lanes.proofs.LaneOutputs.{closes, longer, Ends}
use Rattle.ciel_steal_pool.proofs.pool.Pool.close.Goals as goal

pub loop-at-preserved : goal.loop-at-preserved
loop-at-preserved g c =
    let i = c.loop-at.invariant in
    let at = c.loop-at.at in
    let r = c.last_of-output.result in
    let o = c.last_of-output.ensures in
    let fresh : LaneSeen g.row.W-In.Denot = record { put = []; out = None } in
    let new : LaneSeen g.row.W-In.Denot = record { put = (lane_at c.loop-at.places.items at).put; out = None } in
    let lt : at < length c.args.self = omega (arith, c.loop-at-test.true, c.len-at-end.ensures, ap length c.self.view_is) in
    let ends = subst (λ (l : LaneSeen g.row.W-In.Denot). Ends g.W.Work.fits l r) (i.1 at (omega arith)) o.output in
    let m = longer at c.loop-at.done.items c.note.new.done.items r c.note.ensures.items in (
      ap length o.others ∙ (length-set c.loop-at.places.items at new ∙ i.0),
      (λ k le. let ne : k ≢ at = (λ e. omega arith) in
          ap (λ (l : List (LaneSeen g.row.W-In.Denot)). lane_at l k) o.others ∙ (get_or-set_other c.loop-at.places.items at k new fresh ne ∙ i.1 k (omega arith))),
      omega (arith, i.2, m),
      omega (arith, i.3, c.note.ensures.capacity),
      i.4,
      subst (λ (l : List (LaneSeen g.row.W-In.Denot)). Closes g.W.Work.fits 0 l c.note.new.done.items) (sym (take_more c.args.self at fresh lt))
          (closes g.W.Work.fits at (take at c.args.self) (lane_at c.args.self at) c.loop-at.done.items c.note.new.done.items r i.5
          (sym (length-take-le at c.args.self (omega (arith, lt)))) ends c.note.ensures.items),
      omega (arith, lt),
    )
