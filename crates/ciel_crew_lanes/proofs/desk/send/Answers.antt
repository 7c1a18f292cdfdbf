use Rattle.std.proofs.Common.{sym, subst}
use Rattle.crossbeam_channel.specs.Claims.{view}
use Rattle.ciel_crew_lanes.specs.Desk.{MayPut}
use Rattle.ciel_crew_lanes.proofs.Desks.{pushes}
use Rattle.ciel_crew_lanes.proofs.desk.send.Goals as goal

pub send_as-requires-clause-rule : goal.send_as-requires-clause-rule
send_as-requires-clause-rule g c =
    let e = c.loop.invariant.1 in
    let n = c.loop.invariant.2 in (
      pushes g.W.Work.takes g.W.Work.fits _ c.loop.pass.id (view c.loop.pass) c.loop.note
          (subst (λ x. MayPut g.W.Work.takes g.W.Work.fits x c.loop.note) (sym e)
          (subst (λ x. MayPut g.W.Work.takes g.W.Work.fits (view c.args.pass.now) x) (sym n) c.requires.may)),
      λ items views h at. tt,
    )
