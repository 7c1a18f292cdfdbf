use Rattle.std.proofs.Common.{sym, subst}
use Rattle.crossbeam_channel.specs.Claims.{view}
use Rattle.ciel_crew_lanes.specs.Desk.{MayTake}
use Rattle.ciel_crew_lanes.proofs.Desks.{pops}
use Rattle.ciel_crew_lanes.proofs.desk.receive.Goals as goal

pub recv_as-requires-clause-rule : goal.recv_as-requires-clause-rule
recv_as-requires-clause-rule g c = (
  pops g.W.Work.takes g.W.Work.fits c.loop.pass.id (view c.loop.pass) (subst (λ x. MayTake x) (sym c.loop.invariant.1) c.requires.may),
  λ items views h at. tt,
)
