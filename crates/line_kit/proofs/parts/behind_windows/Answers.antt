use Rattle.std.proofs.Common.{◌≡◌, ◌+◌, ◌-◌, ℕ, take, drop, refl, ap, ◌∙◌, arith}
use Rattle.std.specs.Prelude.{count_by}
use Rattle.line_kit.specs.Lines.{is_feed}
use Rattle.line_kit.proofs.EndsLaw.{count_both}
use Rattle.line_kit.proofs.parts.behind_windows.Goals as goal

pub loop-at-preserved : goal.loop-at-preserved
loop-at-preserved c =
    let xs = c.args.bytes.now in
    let at = c.loop-at.at in
    let many = c.min.result in
    let window : at + many - at ≡ many = omega arith in
    let feeds = c.line_feeds-feeds.ensures.value ∙ ap (λ (n : ℕ). count_by is_feed (take n (drop at xs))) window in
    record {
      within = omega (arith, c.min.ensures, c.loop-at.invariant.within);
      feeds = omega (arith, count_both xs (drop at xs) at many refl, feeds, c.loop-at.invariant.feeds, c.if-feeds-left.false);
      start = λ none. absurd (omega (arith, none, c.if-feeds-left.false));
    }
