-- The digits of the next bytes are put behind those that were put, or a part of them is.
use Rattle.std.proofs.Common.{◌≡◌, ◌++◌, ◌∙◌, ℕ, List, [], ◌∷◌, append_assoc, length, refl, sym, ap, ap₂, subst, arith}
use Rattle.std.proofs.lemmas.List.{append-nil, take-append-drop}
use Rattle.std.proofs.lemmas.Bool.Decides.{nat_tests}
use Rattle.hex.specs.Hex.{encode_lower}
use Rattle.ciel_io.specs.Tells.{Tells}
use Rattle.ciel_io.proofs.Joined.{tells_more, on_err}
use Rattle.ciel_run_log.proofs.Puts.{digits_of_parts, no_digits, part_at}
use Rattle.ciel_run_log.proofs.text.put_hex.Goals as goal

pub returns-in_err-put_digits-clause-part : goal.returns-in_err-put_digits-clause-part
returns-in_err-put_digits-clause-part g c =
    let so_far = c.loop-rest.invariant.written in
    let piece = c.split_at.result.0.now in
    let more = c.split_at.result.1.now in
    let cut : c.loop-rest.rest.now ≡ piece ++ more =
    sym (ap₂ (λ x y. x ++ y) c.split_at.ensures.front c.split_at.ensures.back ∙ take-append-drop _ _) in
    let whole : encode_lower c.args.bytes.now ≡ so_far.0 ++ (encode_lower piece ++ encode_lower more) =
    so_far.1 ∙ ap (λ t. so_far.0 ++ t) (ap encode_lower cut ∙ digits_of_parts piece more) in
    on_err c.from_residual.result (part_at _ _ _ _ so_far.0 (encode_lower piece) (encode_lower more) whole so_far.2 c.in_err-put_digits.ensures.part)

pub loop-rest-preserved : goal.loop-rest-preserved
loop-rest-preserved g c =
    let so_far = c.loop-rest.invariant.written in
    let piece = c.split_at.result.0.now in
    let more = c.split_at.result.1.now in
    let cut : c.loop-rest.rest.now ≡ piece ++ more =
    sym (ap₂ (λ x y. x ++ y) c.split_at.ensures.front c.split_at.ensures.back ∙ take-append-drop _ _) in
    let whole : encode_lower c.args.bytes.now ≡ (so_far.0 ++ encode_lower piece) ++ encode_lower more =
    so_far.1 ∙ ap (λ t. so_far.0 ++ t) (ap encode_lower cut ∙ digits_of_parts piece more)
    ∙ sym (append_assoc so_far.0 (encode_lower piece) (encode_lower more)) in
    record {
      written = (so_far.0 ++ encode_lower piece, whole, tells_more _ _ _ so_far.0 (encode_lower piece) so_far.2 c.in_ok-put_digits.ensures.written);
      never_falls = omega (arith, c.loop-rest.invariant.never_falls, c.in_ok-put_digits.ensures.never_falls);
    }

none : (xs : List ℕ) → length xs ≡ 0 → xs ≡ []
none [] e = refl
none (x ∷ xs) e = absurd (omega arith)

pub returns-clause-written : goal.returns-clause-written
returns-clause-written g c =
    let so_far = c.loop-rest.invariant.written in
    let empty : c.loop-rest.rest.now ≡ [] = none c.loop-rest.rest.now (grind (arith, nat_tests)) in
    subst (Tells (g.J.Sink.written c.args.sink.now) (g.J.Sink.written c.loop-rest.sink))
    (sym (so_far.1 ∙ ap (λ t. so_far.0 ++ t) (ap encode_lower empty ∙ no_digits) ∙ append-nil so_far.0)) so_far.2
