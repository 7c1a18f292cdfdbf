use Rattle.std.proofs.Common.{◌≡◌, ◌<◌, ◌≤◌, ◌+◌, ◌-◌, length, [], ◌∷◌, take, drop, suc, sym, ap, ap₂, ◌∙◌, arith, rules, length-drop, drop-drop}
use Rattle.std.proofs.lemmas.List.{take_all, nil_from_length}
use Rattle.std.proofs.lemmas.Bool.{eqb-true}
use Rattle.line_kit.specs.Lines.{lines}
use Rattle.line_kit.proofs.Cut.{lines_cut, lines_whole}
use Rattle.line_kit.proofs.lines.first_line.Goals as goal

pub returns-then-is_empty-clause-cut : goal.returns-then-is_empty-clause-cut
returns-then-is_empty-clause-cut c =
    let xs = c.args.bytes.now in
    let end = c.place_of-end.result in
    let none : c.split_at.result.1.now ≡ [] = nil_from_length c.split_at.result.1.now (eqb-true _ 0 (sym c.is_empty.ensures ∙ c.if-is_empty.true)) in
    let whole : length xs ≤ end = omega (arith, c.split_at.ensures.back_len, ap length none) in
    let all : c.split_at.result.0.now ≡ xs = c.split_at.ensures.front ∙ take_all end xs whole in
    lines_whole xs c.requires (λ k l. c.place_of-end.ensures.clean k (omega arith))
    ∙ sym (ap₂ (λ a b. a ∷ lines b) all none)

pub returns-else-is_empty-clause-cut : goal.returns-else-is_empty-clause-cut
returns-else-is_empty-clause-cut c =
    let xs = c.args.bytes.now in
    let end = c.place_of-end.result in
    let back = c.split_at.result.1.now in
    let some : 0 < length back = search rules in
    let below : end < length xs = omega (arith, c.split_at.ensures.back_len) in
    let same : end + 1 ≡ suc end = omega arith in
    let rest : take (length back - 1) (drop 1 back) ≡ drop (suc end) xs =
    take_all _ (drop 1 back) (omega (arith, length-drop 1 back)) ∙ ap (drop 1) c.split_at.ensures.back ∙ drop-drop 1 end xs
    ∙ ap (λ n. drop n xs) same in
    lines_cut xs end below (c.place_of-end.ensures.stops below) c.place_of-end.ensures.clean
    ∙ sym (ap₂ (λ a b. a ∷ lines b) c.split_at.ensures.front rest)
