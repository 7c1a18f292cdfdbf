use Rattle.ciel_flow_pieces.specs.Pieces.{AllParts}
use Rattle.ciel_flow_pieces.proofs.follow.pass_over.Given as goal

abbrev pub invariant-loop : goal.invariant-loop
invariant-loop g l = AllParts l.follower.pieces
