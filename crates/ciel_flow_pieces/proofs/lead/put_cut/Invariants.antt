use Rattle.std.proofs.Common.{◌≡◌, ◌++◌, length}
use Rattle.ciel_flow_pieces.specs.Pieces.{AllParts, AllShort, parts}
use Rattle.ciel_flow_pieces.proofs.lead.put_cut.Given as goal

abbrev pub invariant-loop-rest : goal.invariant-loop-rest
invariant-loop-rest g l = record {
  all : AllParts l.producer.pieces;
  short : AllShort l.producer.pieces;
  source : l.producer.source ≡ l.fn.producer.source;
  on : parts l.producer.pieces ++ l.rest ≡ parts l.fn.producer.pieces ++ l.bytes;
}

abbrev pub decreases-loop-rest : goal.decreases-loop-rest
decreases-loop-rest g l = length l.rest
