use Rattle.std.proofs.Common.{sym, subst}
use Rattle.crossbeam_channel.specs.Claims.{view}
use Rattle.ciel_flow_pieces.specs.Pieces.{MayTake}
use Rattle.ciel_flow_pieces.proofs.Pieces.{pops}
use Rattle.ciel_flow_pieces.proofs.ends.receive.Goals as goal

pub recv_as-requires-clause-rule : goal.recv_as-requires-clause-rule
recv_as-requires-clause-rule g c = (
  pops c.loop.pass.id (view c.loop.pass) (subst (λ x. MayTake x) (sym c.loop.invariant.1) c.requires.may),
  λ items views h at. tt,
)
