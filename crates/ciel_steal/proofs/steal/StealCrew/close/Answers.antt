use Rattle.std.proofs.Common.{List, ap, ◌∙◌, length, map, subst, sym}
use Rattle.std.proofs.lemmas.List.{length-map}
use Rattle.ciel_crew_work.specs.Crews.{FadesEach}
use Rattle.ciel_crew_work.specs.Seen.{CrewSeen}
use Rattle.ciel_crew_work.proofs.CrewSteps.{all_gates}
use Rattle.ciel_steal.proofs.steal.StealCrew.close.Goals as goal

pub returns-clause-all : goal.returns-clause-all
returns-clause-all g c =
    let i = c.self.inside in
    let all = all_gates g.K.Kit.gives g.N.Namer.digest g.G.Gate.entered 0 i.lanes i.idle.items c.close.result.items c.self.invariant.keeps.same
    (λ j lt. (c.self.invariant.keeps.each j lt).one) c.close.ensures.closes in
    ap length c.gather.ensures.gates ∙ (sym (length-map _ g.G.Gate.entered)
    ∙ (all.0 ∙ ap (λ (s : CrewSeen g.row.K.Denot g.row.N.Denot). length s.told) c.self.view_is))

pub returns-clause-told : goal.returns-clause-told
returns-clause-told g c =
    let i = c.self.inside in
    let all = all_gates g.K.Kit.gives g.N.Namer.digest g.G.Gate.entered 0 i.lanes i.idle.items c.close.result.items c.self.invariant.keeps.same
    (λ j lt. (c.self.invariant.keeps.each j lt).one) c.close.ensures.closes in
    λ sound. subst (λ (x : CrewSeen g.row.K.Denot g.row.N.Denot × List g.row.G.Denot). FadesEach x.0.told (map g.G.Gate.entered x.1))
    (λ k. (c.self.view_is k, sym c.gather.ensures.gates k)) all
