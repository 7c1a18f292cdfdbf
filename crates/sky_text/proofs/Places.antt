-- How a place moves on: over bytes with no line feed by as many columns, over a line feed to the next
-- line.
use Rattle.std.proofs.Common.{◌≡◌, ℕ, suc, ◌+◌, ◌-◌, ◌≤◌, ◌<◌, Bool, cond, not, count_by, List, [], ◌∷◌, ◌++◌, length, take, drop, refl, sym, ap, ◌∙◌}
use Rattle.std.proofs.Common.{subst, arith, append_assoc}
use Rattle.std.specs.List.{prefix_len, suffix_len}
use Rattle.std.proofs.lemmas.List.{append-nil, length-take-le, reverse-append}
use Rattle.std.proofs.lemmas.List.Sums.{sum_by-append, sum_by-cons, sum_by_push}
use Rattle.std.proofs.Math.Seq.{take-add}
use Rattle.sky_text.specs.Place.{column_of, is_line_feed, line_of}
use Rattle.sky_text.specs.Lexing.{gap_len}
use Rattle.sky_text.specs.Parts.{NoFeed}
use Rattle.sky_text.proofs.Spans.{Span, gap_feed, gap_no_feed}
use Rattle.std.specs.Prelude.{◌==◌}
use Rattle.std.proofs.lemmas.Bool.{cond_both, eqb-true, false≢true}

abbrev since : List ℕ → ℕ
since = suffix_len (λ b. not (is_line_feed b))

since_push : (xs : List ℕ) (b : ℕ) → since (xs ++ b ∷ []) ≡ cond (not (is_line_feed b)) (1 + since xs) 0
since_push xs b = ap (prefix_len (λ b. not (is_line_feed b))) (reverse-append xs (b ∷ []))

since_past : (xs ys : List ℕ) → NoFeed ys → since (xs ++ ys) ≡ since xs + length ys
since_past xs [] h = rw (append-nil xs) (omega arith)
since_past xs (y ∷ ys) h =
    let one : since (xs ++ y ∷ []) ≡ 1 + since xs = since_push xs y ∙ rw h.0 refl in
    ap since (sym (append_assoc xs (y ∷ []) ys)) ∙ since_past (xs ++ y ∷ []) ys h.1 ∙ omega (arith, one)

no_feeds : (ys : List ℕ) → NoFeed ys → count_by is_line_feed ys ≡ 0
no_feeds [] h = refl
no_feeds (y ∷ ys) h = sum_by-cons (λ x. cond (is_line_feed x) 1 0) y ys ∙ ap (λ (x : Bool). cond x 1 0 + count_by is_line_feed ys) h.0
    ∙ omega (arith, no_feeds ys h.1)

-- over bytes with no line feed
pub same_line : (bytes rest : List ℕ) (at n : ℕ) → rest ≡ drop at bytes → n ≤ length rest → NoFeed (take n rest)
    → (line_of bytes (at + n) ≡ line_of bytes at) × (column_of bytes (at + n) ≡ column_of bytes at + n)
same_line bytes rest at n e h g =
    let front : take (at + n) bytes ≡ take at bytes ++ take n rest = take-add at n bytes ∙ ap (λ (x : List ℕ). take at bytes ++ take n x) (sym e) in
    let long : length (take n rest) ≡ n = length-take-le n rest h in (
      ap (λ (x : List ℕ). count_by is_line_feed x + 1) front
          ∙ ap (λ (x : ℕ). x + 1) (sum_by-append (λ x. cond (is_line_feed x) 1 0) (take at bytes) (take n rest))
          ∙ omega (arith, no_feeds (take n rest) g),
      ap (λ (x : List ℕ). since x + 1) front ∙ omega (arith, since_past (take at bytes) (take n rest) g, long),
    )

-- over a line feed
pub next_line : (bytes rest r : List ℕ) (at : ℕ) → rest ≡ drop at bytes → rest ≡ 10 ∷ r → (line_of bytes (at + 1) ≡ line_of bytes at + 1)
    × (column_of bytes (at + 1) ≡ 1)
next_line bytes rest r at e h =
    let front : take (at + 1) bytes ≡ take at bytes ++ 10 ∷ [] = take-add at 1 bytes ∙ ap (λ (x : List ℕ). take at bytes ++ take 1 x) (sym e ∙ h) in (
      ap (λ (x : List ℕ). count_by is_line_feed x + 1) front
          ∙ ap (λ (x : ℕ). x + 1) (sum_by_push (λ x. cond (is_line_feed x) 1 0) (take at bytes) 10),
      ap (λ (x : List ℕ). since x + 1) front ∙ ap (λ (x : ℕ). x + 1) (since_push (take at bytes) 10),
    )

-- behind a gap
pub past_gap : (bytes rest : List ℕ) (at b : ℕ) (r : List ℕ) (line col : ℕ) (place : ℕ × ℕ) → rest ≡ drop at bytes → rest ≡ b ∷ r
    → 0 < gap_len b r → gap_len b r ≤ suc (length r)
    → line ≡ line_of bytes at → col ≡ column_of bytes at → line ≤ at + 1 → col ≤ at + 1 → place
    ≡ cond (b == 10) (line + 1, 1) (line, col + gap_len b r)
    → (place.0 ≡ line_of bytes (at + gap_len b r)) × (place.1 ≡ column_of bytes (at + gap_len b r)) × (place.0 ≤ at + gap_len b r + 1)
    × (place.1 ≤ at + gap_len b r + 1)
past_gap bytes rest at b r line col place e h some within is_line is_col few_lines few_columns is_place =
    let n = gap_len b r in
    cond_both (b == 10) (line + 1, 1) (line, col + n)
    (λ (p : ℕ × ℕ). place ≡ p → (place.0 ≡ line_of bytes (at + n)) × (place.1 ≡ column_of bytes (at + n)) × (place.0 ≤ at + n + 1)
    × (place.1 ≤ at + n + 1))
    (λ t p. let feed : b ≡ 10 = eqb-true b 10 t in
    let one : n ≡ 1 = ap (λ (x : ℕ). gap_len x r) feed ∙ gap_feed r in
    let next = next_line bytes rest r at e (h ∙ ap (λ (x : ℕ). x ∷ r) feed) in
    let first : place.0 ≡ line + 1 = ap (λ (x : ℕ × ℕ). x.0) p in
    let second : place.1 ≡ 1 = ap (λ (x : ℕ × ℕ). x.1) p in
    rw one (first ∙ omega (arith, next.0), second ∙ sym next.1, omega arith, omega arith))
    (λ t p. let other : b ≡ 10 → ⊥ = λ feed. false≢true (sym t ∙ ap (λ (x : ℕ). x == 10) feed) in
    let long : n ≤ length rest = omega (arith, ap length h) in
    let same = same_line bytes rest at n e long (subst (λ (x : List ℕ). NoFeed (take n x)) (sym h) (gap_no_feed b r other)) in
    let first : place.0 ≡ line = ap (λ (x : ℕ × ℕ). x.0) p in
    let second : place.1 ≡ col + n = ap (λ (x : ℕ × ℕ). x.1) p in
    (omega (arith, same.0), omega (arith, same.1), omega arith, omega arith)) is_place

-- behind a token
pub past_token : (bytes rest : List ℕ) (at to b : ℕ) (r : List ℕ) → rest ≡ drop at bytes → rest ≡ b ∷ r → Span at to (b ∷ r)
    → (line_of bytes to ≡ line_of bytes at) × (column_of bytes to ≡ column_of bytes at + (to - at))
past_token bytes rest at to b r e h span =
    let n = suc span.0 in
    let long : n ≤ length rest = omega (arith, ap length h, span.2) in
    let same = same_line bytes rest at n e long (subst (λ (x : List ℕ). NoFeed (take n x)) (sym h) span.3) in
    let to_is : to ≡ at + n = span.1 in
    let len : to - at ≡ n = omega arith in
    rw (len, to_is) same
