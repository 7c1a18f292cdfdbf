use Rattle.std.proofs.Common.{List, ap, ◌∙◌, arith, length, map, subst, sym}
use Rattle.std.proofs.lemmas.List.{length-map}
use Rattle.ciel_crew_lanes.specs.Seen.{Closes}
use Rattle.ciel_flow_work.specs.Crewed.{IsDoneOf}
use Rattle.ciel_flow_work.specs.Crews.{FadesEach}
use Rattle.ciel_flow_work.specs.Flowing.{as_crew}
use Rattle.ciel_crew_work.proofs.CrewSteps.{all_gates}
use Rattle.ciel_flow.specs.Streaming.{StreamsSeen}
use Rattle.ciel_flow.proofs.LaneSteps.{closes_done, closes_few}
use Rattle.ciel_flow.proofs.streams.StreamsCrew.close.Goals as goal

pub done_alone-done-requires-clause-empty : goal.done_alone-done-requires-clause-empty
done_alone-done-requires-clause-empty g c = c.self.invariant.empty

pub done_alone-done-requires-clause-room : goal.done_alone-done-requires-clause-room
done_alone-done-requires-clause-room g c =
    let i = c.self.inside in
    omega (
      arith,
      c.self.invariant.enough,
      closes_few g.K.Kit.gives g.N.Namer.digest g.G.Gate.entered 0 i.lanes c.close.result.items c.close.ensures.closes,
    )

pub returns-clause-all : goal.returns-clause-all
returns-clause-all g c =
    let i = c.self.inside in
    let keeps = c.self.invariant.crew.keeps in
    let all = all_gates g.K.Kit.gives g.N.Namer.digest g.G.Gate.entered 0 (as_crew i.lanes) i.idle.items c.done_alone-done.result.items keeps.same
    (λ j lt. (keeps.each j lt).one)
    (subst (λ outs. Closes (IsDoneOf g.K.Kit.gives g.N.Namer.digest g.G.Gate.entered) 0 (as_crew i.lanes) outs) (sym c.done_alone-done.ensures)
    (closes_done g.K.Kit.gives g.N.Namer.digest g.G.Gate.entered 0 i.lanes c.close.result.items c.close.ensures.closes)) in
    ap length c.gather.ensures.gates ∙ (sym (length-map _ g.G.Gate.entered)
    ∙ (all.0 ∙ ap (λ (s : StreamsSeen g.row.K.Denot g.row.N.Denot). length s.crew.told) c.self.view_is))

pub returns-clause-told : goal.returns-clause-told
returns-clause-told g c =
    let i = c.self.inside in
    let keeps = c.self.invariant.crew.keeps in
    let all = all_gates g.K.Kit.gives g.N.Namer.digest g.G.Gate.entered 0 (as_crew i.lanes) i.idle.items c.done_alone-done.result.items keeps.same
    (λ j lt. (keeps.each j lt).one)
    (subst (λ outs. Closes (IsDoneOf g.K.Kit.gives g.N.Namer.digest g.G.Gate.entered) 0 (as_crew i.lanes) outs) (sym c.done_alone-done.ensures)
    (closes_done g.K.Kit.gives g.N.Namer.digest g.G.Gate.entered 0 i.lanes c.close.result.items c.close.ensures.closes)) in
    λ sound. subst (λ (x : StreamsSeen g.row.K.Denot g.row.N.Denot × List g.row.G.Denot). FadesEach x.0.crew.told (map g.G.Gate.entered x.1))
    (λ k. (c.self.view_is k, sym c.gather.ensures.gates k)) all
