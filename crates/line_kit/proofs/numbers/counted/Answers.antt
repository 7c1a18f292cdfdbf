use Rattle.std.proofs.Common.{◌≡◌, ◌+◌, ◌-◌, ◌<◌, ◌≤◌, ℕ, List, length, take, drop, Some, sym, ap, ◌∙◌, arith, rules, length-drop}
use Rattle.std.proofs.lemmas.List.{take_all}
use Rattle.std.proofs.lemmas.List.Sums.{prefix_len-le-length}
use Rattle.std.specs.Prelude.{not}
use Rattle.line_kit.specs.Numbers.{is_space}
use Rattle.line_kit.proofs.Digits.{counted_none, counted_some}
use Rattle.line_kit.proofs.numbers.counted.Goals as goal

pub returns-then-end-line-clause-value : goal.returns-then-end-line-clause-value
returns-then-end-line-clause-value c = sym (counted_none c.args.line.now c.number_end-end.result c.number_end-end.ensures (search rules))

pub returns-clause-value : goal.returns-clause-value
returns-clause-value c =
    let line = c.args.line.now in
    let end = c.number_end-end.result in
    let near : end ≤ length line = omega (arith, prefix_len-le-length (λ b. not (is_space b)) line, c.number_end-end.ensures) in
    let below : end < length line = omega (arith, near, c.if-end-line.false) in
    let all : take (length line - (end + 1)) (drop (end + 1) line) ≡ drop (end + 1) line =
    take_all _ (drop (end + 1) line) (omega (arith, length-drop (end + 1) line)) in
    ap (λ (rest : List ℕ). Some (rest, c.in_ok-number.number)) all
    ∙ sym (counted_some line end c.in_ok-number.number c.number_end-end.ensures below (search rules))
