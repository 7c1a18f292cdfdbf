use Rattle.std.proofs.Common.{sym, subst}
use Rattle.ciel_flow_pieces.specs.Pieces.{AllParts, StreamSeen}
use Rattle.ciel_flow_pieces.proofs.Pieces.{all_more}
use Rattle.ciel_flow_pieces.proofs.follow.pass_over.Goals as goal

pub loop-preserved-in-Part : goal.loop-preserved-in-Part
loop-preserved-in-Part g c =
    subst (λ (s : StreamSeen). AllParts s.pieces) (sym c.in-Part.ensures.taken) (all_more c.loop.follower.pieces c.in-Part.field-0 c.loop.invariant)
