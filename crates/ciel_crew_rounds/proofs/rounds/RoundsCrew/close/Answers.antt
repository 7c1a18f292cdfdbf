use Rattle.std.proofs.Common.{List, ◌∙◌, ap, length, map, subst, sym}
use Rattle.std.proofs.lemmas.List.{length-map}
use Rattle.std.specs.Arc.{arc_value}
use Rattle.std.specs.Vec.{vec_capacity}
use Rattle.ciel_task_crew.specs.Crews.{FadesEach}
use Rattle.ciel_task_crew.specs.Seen.{CrewSeen}
use Rattle.ciel_crew_rounds.specs.Seats.{told_of}
use Rattle.ciel_crew_rounds.proofs.RoundsSeen.{all_gates, fades_by, stands_play, told_fades}
use Rattle.ciel_crew_rounds.proofs.rounds.RoundsCrew.close.Goals as goal

pub play-requires : goal.play-requires
play-requires g c =
    let i = c.self.inside in
    record {
      can = stands_play g.K.Kit.gives g.N.Namer.digest (arc_value i.shop) i.lanes i.seats.items i.room.items (vec_capacity i.room)
          c.self.invariant;
    }

pub returns-clause-told : goal.returns-clause-told
returns-clause-told g c =
    let i = c.self.inside in
    let seats = c.play.new.seats.items in
    let all = all_gates g.K.Kit.gives g.N.Namer.digest (arc_value i.shop) i.lanes i.seats.items i.room.items (vec_capacity i.room)
    c.self.invariant g.G.Gate.entered seats c.play.ensures.goes c.play.ensures.home in
    let fades = fades_by (map (told_of g.G.Gate.entered) i.seats.items) (map (told_of g.G.Gate.entered) seats) _
    (told_fades g.K.Kit.gives g.N.Namer.digest g.G.Gate.entered i.seats.items seats c.play.ensures.goes) all in
    λ sound. subst (λ (x : CrewSeen g.row.K.Denot g.row.N.Denot × List g.row.G.Denot). FadesEach x.0.told (map g.G.Gate.entered x.1))
    (λ k. (c.self.view_is k, sym c.gates_of.ensures.gates k)) fades

pub returns-clause-all : goal.returns-clause-all
returns-clause-all g c =
    let i = c.self.inside in
    let seats = c.play.new.seats.items in
    let all = all_gates g.K.Kit.gives g.N.Namer.digest (arc_value i.shop) i.lanes i.seats.items i.room.items (vec_capacity i.room)
    c.self.invariant g.G.Gate.entered seats c.play.ensures.goes c.play.ensures.home in
    let fades = fades_by (map (told_of g.G.Gate.entered) i.seats.items) (map (told_of g.G.Gate.entered) seats) _
    (told_fades g.K.Kit.gives g.N.Namer.digest g.G.Gate.entered i.seats.items seats c.play.ensures.goes) all in
    ap length c.gates_of.ensures.gates ∙ (sym (length-map _ g.G.Gate.entered)
    ∙ (fades.0 ∙ ap (λ (s : CrewSeen g.row.K.Denot g.row.N.Denot). length s.told) c.self.view_is))
