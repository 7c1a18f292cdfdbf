use Rattle.std.proofs.Common.{◌++◌, ◌∷◌, [], sym, ap, ◌∙◌, arith, length-append, append_assoc}
use Rattle.ciel_crew_lanes.proofs.LaneOutputs.{closes, longer}
use Rattle.ciel_crew_lanes.proofs.lanes.Lanes.close.Goals as goal

pub loop-lane-preserved : goal.loop-lane-preserved
loop-lane-preserved g c =
    let i = c.loop-lane.invariant in
    let s = c.in-Some.ensures.steps.0 in
    let n = length-append c.loop-lane.yielded (c.in-Some.lane ∷ []) in
    let m = longer c.loop-lane.at c.loop-lane.done.items c.note.new.done.items c.finish-output.result c.note.ensures.items in (
      append_assoc c.loop-lane.yielded (c.in-Some.lane ∷ []) c.next.new.self.rest.items ∙ (ap (λ l. c.loop-lane.yielded ++ l) (sym s) ∙ i.0),
      omega (arith, i.1, n),
      omega (arith, i.2, m),
      omega (arith, i.3, c.note.ensures.capacity),
      i.4,
      closes g.W.Work.fits c.loop-lane.at c.loop-lane.yielded c.in-Some.lane c.loop-lane.done.items c.note.new.done.items c.finish-output.result
          i.5 i.1 c.finish-output.ensures c.note.ensures.items,
    )
