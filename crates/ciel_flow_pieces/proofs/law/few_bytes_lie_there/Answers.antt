use Rattle.ciel_flow_pieces.proofs.Pieces.{few_lie_there}
use Rattle.ciel_flow_pieces.proofs.law.few_bytes_lie_there.Goals as goal

pub returns : goal.returns
returns c = few_lie_there
