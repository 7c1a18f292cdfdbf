use Rattle.std.proofs.Common.{◌≡◌, ℕ, List, ◌++◌, ap, ap₂, ◌∙◌, arith}
use Rattle.std.proofs.lemmas.List.{take-append-drop}
use Rattle.line_flow.specs.Told.{fed_more}
use Rattle.line_flow.proofs.GrownInputs.{length-grow}
use Rattle.line_flow.proofs.StandsLaw.{more_twice}
use Rattle.line_flow.proofs.kit.feed_all.Goals as goal

pub loop-rest-preserved : goal.loop-rest-preserved
loop-rest-preserved c t s can =
    let i = c.loop-rest.invariant t s can in
    let input = c.args.input in
    let piece = c.split_at.result.0.now in
    let more = c.split_at.result.1.now in
    let whole : piece ++ more ≡ c.loop-rest.rest.now = ap₂ (λ (a b : List ℕ). a ++ b) c.split_at.ensures.front c.split_at.ensures.back
    ∙ take-append-drop 65536 c.loop-rest.rest.now in (
      fed_more i.0 input piece,
      c.in_ok-feed.ensures.fed i.0 i.1 i.2,
      (omega arith, omega (arith, i.2.1, length-grow input piece i.0.fed)),
      more_twice i.0 input piece more ∙ ap (fed_more i.0 input) whole ∙ i.3,
    )
