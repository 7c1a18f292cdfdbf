use Rattle.std.proofs.Common.{◌≡◌, ℕ, List, ◌++◌, [], ap, ap₂, ◌∙◌, append_assoc, append-nil}
use Rattle.std.proofs.lemmas.List.{take-append-drop}
use Rattle.ciel_flow_pieces.specs.Pieces.{parts}
use Rattle.ciel_flow_pieces.proofs.Leading.{first_still}
use Rattle.ciel_flow_pieces.proofs.lead.put_cut.Goals as goal

pub put_one-requires-clause-begins : goal.put_one-requires-clause-begins
put_one-requires-clause-begins g c =
    let part = c.in_ok-part.part in
    let rest = c.loop-rest.rest.now in
    let more = c.split_at.result.1.now in
    let cut : part ++ more ≡ rest = ap₂ (λ (a b : List ℕ). a ++ b) (c.in_ok-part.ensures ∙ c.split_at.ensures.front) c.split_at.ensures.back
    ∙ take-append-drop 65536 rest in
    first_still c.args.producer.now c.loop-rest.producer c.args.bytes.now rest part more c.requires.begins c.loop-rest.invariant.source
    c.loop-rest.invariant.on cut

pub loop-rest-preserved : goal.loop-rest-preserved
loop-rest-preserved g c =
    let part = c.in_ok-part.part in
    let rest = c.loop-rest.rest.now in
    let more = c.split_at.result.1.now in
    let cut : part ++ more ≡ rest = ap₂ (λ (a b : List ℕ). a ++ b) (c.in_ok-part.ensures ∙ c.split_at.ensures.front) c.split_at.ensures.back
    ∙ take-append-drop 65536 rest in
    let before = parts c.loop-rest.producer.pieces in
    let put = c.put_one.ensures in
    record {
      all = put.all;
      short = put.all_short;
      source = put.source ∙ c.loop-rest.invariant.source;
      on = ap (λ (r : List ℕ). r ++ more) put.put ∙ append_assoc before part more ∙ ap (λ (r : List ℕ). before ++ r) cut ∙ c.loop-rest.invariant.on;
    }

pub put_one-requires-2-clause-begins : goal.put_one-requires-2-clause-begins
put_one-requires-2-clause-begins g c =
    let last = c.in_ok-last.last in
    first_still c.args.producer.now c.loop-rest.producer c.args.bytes.now c.loop-rest.rest.now last [] c.requires.begins c.loop-rest.invariant.source
    c.loop-rest.invariant.on (append-nil last ∙ c.in_ok-last.ensures)

pub returns-clause-put : goal.returns-clause-put
returns-clause-put g c =
    c.put_one-2.ensures.put ∙ ap (λ (r : List ℕ). parts c.loop-rest.producer.pieces ++ r) c.in_ok-last.ensures ∙ c.loop-rest.invariant.on
