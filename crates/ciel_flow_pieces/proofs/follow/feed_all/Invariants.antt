use Rattle.std.proofs.Common.{◌≡◌, [], ◌∷◌}
use Rattle.std.specs.Prelude.{replicate}
use Rattle.sky_base.specs.View.{view}
use Rattle.line_flow.specs.Stands.{Stands}
use Rattle.ciel_flow_pieces.specs.Left.{flat}
use Rattle.ciel_flow_pieces.specs.Pieces.{AllParts, parts}
use Rattle.ciel_flow_pieces.proofs.follow.feed_all.Given as goal

abbrev pub invariant-loop : goal.invariant-loop
invariant-loop g l = record {
  executor : l.executor ≡ l.fn.executor;
  all : AllParts l.follower.pieces;
  source : l.follower.source ≡ l.fn.follower.source;
  same : parts l.follower.pieces ≡ flat l.parts.items;
  stands : Stands l.flow record {
    executor = l.executor;
    args = view l.args;
    outputs = l.outputs;
    fed = flat l.parts.items ∷ [];
    last = 0;
    drained = replicate l.outputs [];
  };
}
