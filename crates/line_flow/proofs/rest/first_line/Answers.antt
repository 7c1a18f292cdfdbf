use Rattle.std.proofs.Common.{◌≡◌, ◌+◌, ◌<◌, ℕ, length, take, suc, ap, ◌∙◌, arith}
use Rattle.std.proofs.lemmas.List.{take_all}
use Rattle.line_kit.specs.Lines.{lines, is_open}
use Rattle.line_kit.proofs.Cut.{lines_whole}
use Rattle.line_flow.proofs.Places.{line_to_feed, closed_to_feed}
use Rattle.line_flow.proofs.rest.first_line.Goals as goal

pub returns-then-end-bytes-clause-line : goal.returns-then-end-bytes-clause-line
returns-then-end-bytes-clause-line c =
    let xs = c.args.bytes.now in
    ap lines (take_all c.place_of-end.result xs (omega (arith, c.if-end-bytes.true)))
    ∙ lines_whole xs c.requires (λ k l. c.place_of-end.ensures.clean k (omega (arith, c.if-end-bytes.true)))

pub returns-else-end-bytes-clause-line : goal.returns-else-end-bytes-clause-line
returns-else-end-bytes-clause-line c =
    let xs = c.args.bytes.now in
    let end = c.place_of-end.result in
    let below : end < length xs = omega (arith, c.if-end-bytes.false, c.place_of-end.ensures.bound) in
    let next : end + 1 ≡ suc end = omega arith in
    ap (λ (n : ℕ). lines (take n xs)) next ∙ line_to_feed xs end below (c.place_of-end.ensures.stops below) c.place_of-end.ensures.clean

pub returns-else-end-bytes-clause-closed : goal.returns-else-end-bytes-clause-closed
returns-else-end-bytes-clause-closed c h =
    let xs = c.args.bytes.now in
    let end = c.place_of-end.result in
    let below : end < length xs = omega (arith, c.if-end-bytes.false, c.place_of-end.ensures.bound) in
    let next : end + 1 ≡ suc end = omega arith in
    ap (λ (n : ℕ). is_open (take n xs)) next ∙ closed_to_feed xs end below (c.place_of-end.ensures.stops below)
