use Rattle.std.proofs.Common.{◌≡◌, ◌+◌, ◌-◌, ◌<◌, ℕ, List, length, take, drop, slice_index, suc, sym, ap, ◌∙◌, arith, length-drop}
use Rattle.std.proofs.lemmas.List.{take_all, get_or-drop}
use Rattle.std.proofs.lemmas.Bool.{eqb-true}
use Rattle.line_kit.specs.Lines.{is_open, is_feed}
use Rattle.line_flow.proofs.Places.{closed_to_feed, no_feeds}
use Rattle.line_flow.proofs.rest.settled_end.Goals as goal

abbrev rest_is : (from : ℕ) (xs : List ℕ) → take (length xs - from) (drop from xs) ≡ drop from xs
rest_is from xs = take_all (length xs - from) (drop from xs) (omega (arith, length-drop from xs))

pub returns-in-Some-clause-closed : goal.returns-in-Some-clause-closed
returns-in-Some-clause-closed c =
    let xs = c.args.bytes.now in
    let from = c.args.from in
    let feed = c.in-Some.feed in
    let all = rest_is from xs in
    let at : slice_index xs (from + feed) ≡ 10 =
    sym (ap (λ (ys : List ℕ). slice_index ys feed) all ∙ get_or-drop from xs feed 0) ∙ eqb-true _ 10 c.in-Some.ensures.1 in
    let below : from + feed < length xs = omega (arith, c.in-Some.ensures.0.high, ap length all, length-drop from xs, c.requires) in
    let next : from + feed + 1 ≡ suc (from + feed) = omega arith in
    ap (λ (n : ℕ). is_open (take n xs)) next ∙ closed_to_feed xs (from + feed) below at

-- where a byte of the rest stands
place_in : (from k : ℕ) (xs : List ℕ) → slice_index (take (length xs - from) (drop from xs)) k ≡ slice_index xs (from + k)
place_in from k xs = ap (λ (ys : List ℕ). slice_index ys k) (rest_is from xs) ∙ get_or-drop from xs k 0

pub returns-in-Some-clause-last : goal.returns-in-Some-clause-last
returns-in-Some-clause-last c zero =
    let xs = c.args.bytes.now in
    let from = c.args.from in
    let feed = c.in-Some.feed in
    let all = rest_is from xs in
    no_feeds (drop (from + feed + 1) xs)
    (λ k l e.
    let next : from + (feed + 1 + k) ≡ from + feed + 1 + k = omega arith in
    let same : slice_index (take (length xs - from) (drop from xs)) (feed + 1 + k) ≡ slice_index (drop (from + feed + 1) xs) k =
    place_in from (feed + 1 + k) xs ∙ ap (slice_index xs) next ∙ sym (get_or-drop (from + feed + 1) xs k 0) in
    c.in-Some.ensures.0.after (feed + 1 + k) (omega arith)
    (omega (arith, l, ap length all, length-drop from xs, length-drop (from + feed + 1) xs)) (ap is_feed same ∙ e))

pub returns-in-None-clause-last : goal.returns-in-None-clause-last
returns-in-None-clause-last c zero =
    let xs = c.args.bytes.now in
    let from = c.args.from in
    let all = rest_is from xs in
    no_feeds xs
    (λ k l e.
    let next : from + k ≡ k = omega (arith, zero) in
    let same : slice_index (take (length xs - from) (drop from xs)) k ≡ slice_index xs k = place_in from k xs ∙ ap (slice_index xs) next in
    c.in-None.ensures k (omega arith) (omega (arith, l, zero, ap length all, length-drop from xs)) (ap is_feed same ∙ e))
