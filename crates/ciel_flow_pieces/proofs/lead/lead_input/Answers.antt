use Rattle.std.proofs.Common.{◌≡◌, ℕ, List, [], ◌∷◌, ◌++◌, length, sym, ap, ap₂, ◌∙◌, arith, append-nil}
use Rattle.std.proofs.lemmas.List.{take-append-drop}
use Rattle.line_flow.specs.Told.{drained_more, fed_more, grow}
use Rattle.line_flow.proofs.GrownInputs.{grow-grow, length-grow}
use Rattle.line_flow.proofs.Results.{on_ok}
use Rattle.ciel_flow_pieces.proofs.Whole.{begins_on, is_of_on}
use Rattle.ciel_flow_pieces.proofs.lead.lead_input.Goals as goal

pub lead_piece-requires-clause-leads : goal.lead_piece-requires-clause-leads
lead_piece-requires-clause-leads g c =
    let r = c.requires.leads in
    let t = r.0 in
    let on = c.loop-rest.invariant.on t r.2 r.4 in
    let piece = c.split_at.result.0.now in
    let more = c.split_at.result.1.now in
    let whole : piece ++ more ≡ c.loop-rest.rest.now = ap₂ (λ (a b : List ℕ). a ++ b) c.split_at.ensures.front c.split_at.ensures.back
    ∙ take-append-drop 65536 c.loop-rest.rest.now in (
      on.0,
      r.1,
      on.1,
      is_of_on c.args.producer.now.source c.loop-rest.producer.source t on.0 r.1 c.loop-rest.invariant.source on.4 on.5 on.6 r.3,
      on.2,
      begins_on t on.0 c.args.input c.args.bytes.now c.loop-rest.rest.now piece more r.1 r.5 on.3 (sym whole),
    )

pub loop-rest-preserved : goal.loop-rest-preserved
loop-rest-preserved g c =
    let piece = c.split_at.result.0.now in
    let more = c.split_at.result.1.now in
    let whole : piece ++ more ≡ c.loop-rest.rest.now = ap₂ (λ (a b : List ℕ). a ++ b) c.split_at.ensures.front c.split_at.ensures.back
    ∙ take-append-drop 65536 c.loop-rest.rest.now in
    let input = c.args.input in
    record {
      all = c.in_ok-lead_piece.ensures.all;
      source = c.in_ok-lead_piece.ensures.source ∙ c.loop-rest.invariant.source;
      on = λ t l can.
          let on = c.loop-rest.invariant.on t l can in
          let u = on.0 in (
            drained_more (fed_more u input piece),
            c.in_ok-lead_piece.ensures.leads u on.1 on.2,
            (omega arith, omega (arith, on.2.1, length-grow input piece u.fed)),
            grow-grow input piece more u.fed ∙ ap (λ (r : List ℕ). grow input r u.fed) whole ∙ on.3,
            on.4,
            on.5,
            on.6,
          );
    }

pub lead_piece-requires-2-clause-leads : goal.lead_piece-requires-2-clause-leads
lead_piece-requires-2-clause-leads g c =
    let r = c.requires.leads in
    let t = r.0 in
    let on = c.loop-rest.invariant.on t r.2 r.4 in
    let rest = c.loop-rest.rest.now in (
      on.0,
      r.1,
      on.1,
      is_of_on c.args.producer.now.source c.loop-rest.producer.source t on.0 r.1 c.loop-rest.invariant.source on.4 on.5 on.6 r.3,
      on.2,
      begins_on t on.0 c.args.input c.args.bytes.now rest rest [] r.1 r.5 on.3 (sym (append-nil rest)),
    )

pub returns-clause-leads : goal.returns-clause-leads
returns-clause-leads g c =
    let rest = c.loop-rest.rest.now in
    let input = c.args.input in
    on_ok c.lead_piece-2.result
    (λ x led t l can.
    let on = c.loop-rest.invariant.on t l can in
    let u = on.0 in (
      drained_more (fed_more u input rest),
      led u on.1 on.2,
      (omega arith, omega (arith, on.2.1, length-grow input rest u.fed)),
      record { executor = on.4; args = on.5; outputs = on.6; fed = on.3 },
    ))
    c.lead_piece-2.ensures.leads
