-- The pieces of a text between its commas, one after the other.
use Rattle.std.proofs.Common.{◌≡◌, ℕ, suc, ◌+◌, ◌<◌, Bool, true, false, cond, List, [], ◌∷◌, Option, Some, None, Bor, length, refl, arith}
use Rattle.std.specs.Prelude.{not}
use Rattle.std.specs.List.{position_or_len, before_first, after_first}
use Rattle.ciel_words.specs.Values.{is_comma, pieces}

one_step : (b : ℕ) (bs : List ℕ) (h : Bool) → is_comma b ≡ h → cond (not h) (1 + position_or_len is_comma bs) 0 ≡ suc (length bs)
    → (position_or_len is_comma bs ≡ length bs → pieces bs ≡ bs ∷ []) → pieces (b ∷ bs) ≡ (b ∷ bs) ∷ []
one_step b bs true h e rec = absurd (omega arith)
one_step b bs false h e rec = let rest = rec (omega arith) in rw (h, rest) refl

-- a text without a comma
pub one_piece : (t : List ℕ) → position_or_len is_comma t ≡ length t → pieces t ≡ t ∷ []
one_piece [] e = refl
one_piece (b ∷ bs) e = one_step b bs (is_comma b) refl e (one_piece bs)

more_step : (b : ℕ) (bs : List ℕ) (h : Bool) → is_comma b ≡ h → cond (not h) (1 + position_or_len is_comma bs) 0 < suc (length bs)
    → (position_or_len is_comma bs < length bs → pieces bs ≡ before_first is_comma bs ∷ pieces (after_first is_comma bs))
    → pieces (b ∷ bs) ≡ before_first is_comma (b ∷ bs) ∷ pieces (after_first is_comma (b ∷ bs))
more_step b bs true h e rec = rw h refl
more_step b bs false h e rec =
    let rest = rec (omega arith) in
    let k = position_or_len is_comma bs in
    let one : 1 + k ≡ suc k = omega arith in
    let two : suc k + 1 ≡ suc (k + 1) = omega arith in
    rw (h, one, two, rest) refl

-- a text with a comma: what stands before the first one, and the pieces behind it
pub more_pieces : (t : List ℕ) → position_or_len is_comma t < length t → pieces t ≡ before_first is_comma t ∷ pieces (after_first is_comma t)
more_pieces [] e = absurd (omega arith)
more_pieces (b ∷ bs) e = more_step b bs (is_comma b) refl e (more_pieces bs)

-- the pieces of what is left of a text, if something is
abbrev pub left : Option (Bor (List ℕ)) → List (List ℕ)
left None = []
left (Some rest) = pieces rest.now
