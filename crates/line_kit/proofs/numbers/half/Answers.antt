use Rattle.std.proofs.Common.{◌≡◌, ℕ, ℤ, pos, int_div, to_z, of_z, w64, List, [], Option, Some, sym, ap, ◌∙◌, rules}
use Rattle.line_kit.specs.Numbers.{signed_number}
use Rattle.line_kit.specs.Gives.{read_each}
use Rattle.std.specs.Fmt.{signed_decimal}
use Rattle.line_kit.specs.Lines.{all_lines, ended}
use Rattle.line_kit.specs.Written.{extended}
use Rattle.line_kit.proofs.HalfLaw.{with_halves, halves_start, halves_more, read_first}
use Rattle.line_kit.proofs.numbers.half.Goals as goal

pub loop-line-init : goal.loop-line-init
loop-line-init c =
    ap (λ (o : Option (List ℕ)). with_halves o (read_each signed_number c.new-lines.result)) c.new-out.ensures
    ∙ ap (λ (ls : List (List ℕ)). with_halves (Some []) (read_each signed_number ls)) c.new-lines.ensures
    ∙ halves_start (read_each signed_number (all_lines c.args.inputs.now))

pub loop-line-preserved : goal.loop-line-preserved
loop-line-preserved c =
    let out = c.loop-line.out in
    let more = c.next_line.new.self in
    let z = c.in-Some-signed_number.number in
    let kept : to_z w64 (of_z w64 c.half_of.result) ≡ c.half_of.result = search rules in
    let read_back : to_z w64 (of_z w64 z) ≡ z = search rules in
    let half : to_z w64 (of_z w64 c.half_of.result) ≡ int_div z (pos 2) = kept ∙ c.half_of.ensures ∙ ap (λ (y : ℤ). int_div y (pos 2)) read_back in
    let read : signed_number c.in-Some.line.now ≡ Some z = search rules in
    halves_more out c.put_signed.new.self z (read_each signed_number more)
    (c.in_ok-put_signed-in-Some-signed_number.ensures ∙ ap (λ (h : ℤ). extended out (ended (signed_decimal h))) half)
    ∙ ap (with_halves out) (sym (read_first signed_number c.in-Some.line.now more z read))
    ∙ ap (λ (ls : List (List ℕ)). with_halves out (read_each signed_number ls)) (sym c.in-Some.ensures) ∙ c.loop-line.invariant
