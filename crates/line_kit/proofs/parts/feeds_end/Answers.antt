use Rattle.std.proofs.Common.{◌≡◌, ◌+◌, ◌-◌, ◌<◌, ℕ, length, take, drop, ap, ◌∙◌, arith, length-drop}
use Rattle.std.specs.Prelude.{count_by}
use Rattle.std.proofs.lemmas.List.{take_rest}
use Rattle.line_kit.specs.Lines.{is_feed, is_open}
use Rattle.line_kit.proofs.EndsLaw.{count_both, no_feeds, one_feed, closed_at}
use Rattle.line_kit.proofs.parts.feeds_end.Goals as goal

pub returns-then-feed-bytes-clause-most : goal.returns-then-feed-bytes-clause-most
returns-then-feed-bytes-clause-most c =
    let xs = c.args.bytes.now in
    let at = c.loop-left.at in
    let behind = take (length xs - at) (drop at xs) in
    let none = no_feeds behind c.place_of.result c.place_of.ensures.bound c.place_of.ensures.clean in
    omega (arith, count_both xs behind at c.place_of.result (take_rest xs at), none, c.loop-left.invariant.feeds)

pub loop-left-preserved : goal.loop-left-preserved
loop-left-preserved c =
    let xs = c.args.bytes.now in
    let at = c.loop-left.at in
    let feed = c.place_of.result in
    let behind = take (length xs - at) (drop at xs) in
    let rest = take_rest xs at in
    let long = ap length rest ∙ length-drop at xs in
    let inside : feed < length behind = omega (arith, long, c.place_of.ensures.bound, c.if-feed-bytes.false, c.loop-left.invariant.within) in
    let here = c.place_of.ensures.stops inside in
    let one = one_feed behind feed inside c.place_of.ensures.clean here in
    let next : at + feed + 1 ≡ at + (feed + 1) = omega arith in
    let whole = ap (λ (n : ℕ). count_by is_feed (take n xs)) next ∙ count_both xs behind at (feed + 1) rest in
    record {
      within = omega (arith, long, inside);
      feeds = omega (arith, whole, one, c.loop-left.invariant.feeds, c.loop-left-test.true);
      closed = λ none. ap (λ (n : ℕ). is_open (take n xs)) next ∙ closed_at xs behind at feed rest inside here;
    }
