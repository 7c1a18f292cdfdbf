-- Each turn of the loop reads a gap or a token, and the rest of the script's tokens are those of the
-- bytes behind it.
use Rattle.std.proofs.Common.{◌≡◌, ◌≤◌, ◌<◌, ◌+◌, ◌-◌, ap, sym, ◌∙◌, subst, arith, length, drop, get_or, List, ℕ, ◌∷◌, inl, inr, refl}
use Rattle.std.specs.Str.{IsUtf8}
use Rattle.std.specs.Prelude.{◌==◌, cond}
use Rattle.std.proofs.lemmas.List.{drop-drop, drop_more, length-drop, nil_from_length}
use Rattle.sky_text.specs.Place.{line_of}
use Rattle.std.proofs.lemmas.Result.{err_from_is_err_and}
use Rattle.std.proofs.lemmas.Str.{IsCharBoundary-after_ascii, IsUtf8-drop}
use Rattle.sky_text.specs.Lexing.{gap_len, tokens_from}
use Rattle.sky_text.proofs.Places.{past_gap, past_token}
use Rattle.sky_text.proofs.LexingSteps.{keeps_end, keeps_gap, keeps_refusal, keeps_token, of_utf8}
use Rattle.sky_text.proofs.Spans.{token_span}
use Rattle.sky_text.proofs.lex.read.Goals as goal

pub loop-first-preserved-then-gap-gt0 : goal.loop-first-preserved-then-gap-gt0
loop-first-preserved-then-gap-gt0 c =
    let bytes = c.args.bytes.now in
    let rest = c.loop-first.rest.now in
    let first = c.in-Some.first.now in
    let after = c.in-Some.after.now in
    let at = c.loop-first.at in
    let split : rest ≡ first ∷ after = c.in-Some.ensures.cases.0 in
    let gap : c.gap_len-gap.result ≡ gap_len first after = c.gap_len-gap.ensures.value in
    let some : 0 < gap_len first after = omega (arith, c.if-gap-gt0.true, gap) in
    let within : gap_len first after ≤ length after + 1 = omega (arith, c.gap_len-gap.ensures.within, gap) in
    let split_len : length rest ≡ length after + 1 = ap length split ∙ omega arith in
    let place = past_gap bytes rest at first after c.loop-first.line c.loop-first.col c.past_gap.result c.loop-first.invariant.rest split some
    (omega arith) c.loop-first.invariant.line c.loop-first.invariant.column c.loop-first.invariant.few_lines
    c.loop-first.invariant.few_columns
    (c.past_gap.ensures ∙ ap (λ (n : ℕ). cond (first == 10) (c.loop-first.line + 1, 1) (c.loop-first.line, c.loop-first.col + n)) gap) in
    let behind : c.split_at.result.1.now ≡ drop (gap_len first after) rest = c.split_at.ensures.back ∙ ap (λ (n : ℕ). drop n rest) gap in
    rw (gap, behind) (record {
      left = keeps_gap bytes rest c.loop-first.tokens.items at first after (tokens_from bytes 0 0 bytes) split some (omega arith)
          c.loop-first.invariant.left;
      rest = ap (drop (gap_len first after)) c.loop-first.invariant.rest ∙ drop-drop (gap_len first after) at bytes;
      count = omega (arith, c.loop-first.invariant.count, split_len, length-drop (gap_len first after) rest);
      line = place.0;
      column = place.1;
      few_lines = place.2;
      few_columns = place.3;
    })

pub token-requires-clause-quoted : goal.token-requires-clause-quoted
token-requires-clause-quoted c = λ quote.
    let bytes = c.args.bytes.now in
    let rest = c.loop-first.rest.now in
    let at = c.loop-first.at in
    let split : rest ≡ c.in-Some.first.now ∷ c.in-Some.after.now = c.in-Some.ensures.cases.0 in
    let short : at < length bytes = omega (arith, c.loop-first.invariant.count, ap length split) in
    let here : drop at bytes ≡ c.in-Some.first.now ∷ c.in-Some.after.now = sym c.loop-first.invariant.rest ∙ split in
    let first : get_or bytes at 0 ≡ c.in-Some.first.now = ap (λ (x : List ℕ). get_or x 0 0) (sym (drop_more bytes at 0 short) ∙ here) in
    let behind : drop (at + 1) bytes ≡ c.in-Some.after.now = ap (drop 1) (sym (drop_more bytes at 0 short) ∙ here) in
    subst IsUtf8 behind (IsUtf8-drop bytes (at + 1) c.requires.utf8 (IsCharBoundary-after_ascii bytes at c.requires.utf8 short (omega arith)))

pub returns-in_err-kind-clause-refused : goal.returns-in_err-kind-clause-refused
returns-in_err-kind-clause-refused c =
    let p = err_from_is_err_and c.from_residual.result c.from_residual.ensures.1 in
    let bytes = c.args.bytes.now in
    let first = c.in-Some.first.now in
    let after = c.in-Some.after.now in
    let none : gap_len first after ≤ 0 = omega (arith, c.if-gap-gt0.false, c.gap_len-gap.ensures.value) in
    rw (p.1, p.2) (elim c.in_err-kind.ensures.refused [
      | inl memory ↦ inl memory
      | inr wrong ↦ inr (of_utf8 bytes c.requires.utf8
          ∙ keeps_refusal bytes c.loop-first.rest.now c.loop-first.tokens.items c.loop-first.at first after c.in_err-kind.field-0.0
          (tokens_from bytes 0 0 bytes) c.in-Some.ensures.cases.0 none wrong c.loop-first.invariant.left)
    ])

pub loop-first-preserved : goal.loop-first-preserved
loop-first-preserved c =
    let bytes = c.args.bytes.now in
    let rest = c.loop-first.rest.now in
    let first = c.in-Some.first.now in
    let after = c.in-Some.after.now in
    let at = c.loop-first.at in
    let to = c.in_ok-kind.to in
    let split : rest ≡ first ∷ after = c.in-Some.ensures.cases.0 in
    let none : gap_len first after ≤ 0 = omega (arith, c.if-gap-gt0.false, c.gap_len-gap.ensures.value) in
    let span = token_span at first after (c.in_ok-kind.kind, to) c.in_ok-kind.ensures.found in
    let place = past_token bytes rest at to first after c.loop-first.invariant.rest split span in
    let behind = c.split_at-else-gap-gt0.ensures.back in
    let places : at + (to - at) ≡ to = omega (arith, span.1) in
    let line : c.loop-first.line ≡ line_of bytes to = c.loop-first.invariant.line ∙ sym place.0 in
    rw (behind, c.in-Ok.ensures.items) (record {
      left = keeps_token bytes rest c.loop-first.tokens.items at first after (c.in_ok-kind.kind, to)
          (record { kind = c.in_ok-kind.kind; from = at; to = to; line = c.loop-first.line; col = c.loop-first.col })
          (tokens_from bytes 0 0 bytes) split none c.in_ok-kind.ensures.found
          (rw (c.loop-first.invariant.line, c.loop-first.invariant.column) refl) c.loop-first.invariant.left;
      rest = ap (drop (to - at)) c.loop-first.invariant.rest ∙ drop-drop (to - at) at bytes ∙ ap (λ (n : ℕ). drop n bytes) places;
      count = omega (arith, c.loop-first.invariant.count, length-drop (to - at) rest, span.1, span.2, ap length split);
      line = line;
      column = omega (arith, c.loop-first.invariant.column, place.1);
      few_lines = omega (arith, c.loop-first.invariant.few_lines, span.1);
      few_columns = omega (arith, c.loop-first.invariant.few_columns, span.1);
    })

pub returns-clause-tokens : goal.returns-clause-tokens
returns-clause-tokens c = of_utf8 c.args.bytes.now c.requires.utf8
    ∙ keeps_end c.args.bytes.now c.loop-first.rest.now c.loop-first.tokens.items c.loop-first.at
    (tokens_from c.args.bytes.now 0 0 c.args.bytes.now) (nil_from_length c.loop-first.rest.now c.in_default.ensures.cases)
    c.loop-first.invariant.left
