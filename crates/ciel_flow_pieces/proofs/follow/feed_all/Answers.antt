use Rattle.std.proofs.Common.{◌≡◌, ℕ, List, [], ◌∷◌, ◌++◌, Ok, sym, ap, subst, ◌∙◌, arith}
use Rattle.std.specs.Prelude.{replicate}
use Rattle.sky_base.specs.View.{view}
use Rattle.line_flow.specs.Stands.{Stands}
use Rattle.line_flow.specs.Told.{Told}
use Rattle.ciel_flow_pieces.specs.Left.{flat}
use Rattle.ciel_flow_pieces.specs.Pieces.{AllParts, LawOf, StreamSeen, parts}
use Rattle.ciel_flow_pieces.specs.Source.{output}
use Rattle.ciel_flow_pieces.specs.declared.follow.Left.{Left}
use Rattle.ciel_flow_pieces.proofs.Leaving.{flat-more, on_some}
use Rattle.ciel_flow_pieces.proofs.Pieces.{all_more, parts_more, whole_at_end}
use Rattle.ciel_flow_pieces.proofs.follow.feed_all.Goals as goal

pub pass_over-requires : goal.pass_over-requires
pass_over-requires g c =
    subst (λ (s : StreamSeen). AllParts s.pieces) (sym c.in-Part.ensures.taken) (all_more c.loop.follower.pieces c.in-Part.bytes c.loop.invariant.all)

pub loop-preserved : goal.loop-preserved
loop-preserved g c =
    let i = c.loop.invariant in
    let b = c.in-Part.bytes in
    let took = c.in-Part.ensures.taken in
    let flat_is : flat c.keep.new.parts.items ≡ flat c.loop.parts.items ++ b = ap flat c.in-Ok.ensures.parts ∙ flat-more c.loop.parts.items b in
    let t : Told = record {
      executor = c.loop.executor;
      args = view c.args.args;
      outputs = c.args.outputs;
      fed = flat c.loop.parts.items ∷ [];
      last = 0;
      drained = replicate c.args.outputs [];
    } in
    record {
      executor = i.executor;
      all = subst (λ (s : StreamSeen). AllParts s.pieces) (sym took) (all_more c.loop.follower.pieces b i.all);
      source = ap (λ (s : StreamSeen). s.source) took ∙ i.source;
      same = ap (λ (s : StreamSeen). parts s.pieces) took ∙ parts_more c.loop.follower.pieces b ∙ ap (λ (r : List ℕ). r ++ b) i.same ∙ sym flat_is;
      stands = subst (λ (r : List ℕ). Stands c.keep.new.flow record t { fed = r ∷ [] }) (sym flat_is)
          (c.in-Ok.ensures.fed t i.stands (omega arith, omega arith));
    }

pub returns-in-End-clause-whole : goal.returns-in-End-clause-whole
returns-in-End-clause-whole g c =
    let i = c.loop.invariant in
    let law = subst (λ (s : StreamSeen). LawOf s.source s.pieces) c.in-End.ensures.taken c.in-End.ensures.law in
    let whole = whole_at_end c.loop.follower.source c.loop.follower.pieces law in
    let is : output c.args.follower.source ≡ Ok (flat c.loop.parts.items) = ap output (sym i.source) ∙ whole ∙ ap (λ (b : List ℕ). Ok b) i.same in
    on_some c.ended.result (λ (l : Left) e. is ∙ ap (λ v. Ok (flat v.items)) (sym e)) c.ended.ensures.parts

pub returns-in-End-clause-executor : goal.returns-in-End-clause-executor
returns-in-End-clause-executor g c = on_some c.ended.result (λ (l : Left) e. e ∙ c.loop.invariant.executor) c.ended.ensures.executor
