-- The first word of a line.
use Rattle.std.proofs.Common.{◌≡◌, ℕ, suc, ◌+◌, ◌<◌, Bool, true, false, cond, List, [], ◌∷◌, length, take, drop, refl, sym, ap, subst, ◌∙◌, arith}
use Rattle.std.specs.Prelude.{not}
use Rattle.std.specs.List.{prefix_len}
use Rattle.std.proofs.lemmas.Bool.{true≢false}
use Rattle.std.proofs.lemmas.List.Sums.{prefix_len-le-length}
use Rattle.line_kit.proofs.Truth.{false_from_not}
use Rattle.line_kit.specs.Lines.{with_byte}
use Rattle.line_kit.specs.Words.{is_gap, begins_word, words}

abbrev no_gap : ℕ → Bool
no_gap b = not (is_gap b)

behind_step : (x : ℕ) (xs : List ℕ) (b : Bool) → is_gap x ≡ b → words xs ≡ words (drop (prefix_len is_gap xs) xs) → words (x ∷ xs)
    ≡ words (drop (cond b (1 + prefix_len is_gap xs) 0) (x ∷ xs))
behind_step x xs true e h =
    let one : 1 + prefix_len is_gap xs ≡ suc (prefix_len is_gap xs) = omega arith in
    rw (e, one) h
behind_step x xs false e h = refl

-- gaps in front make no word
pub words_behind : (xs : List ℕ) → words xs ≡ words (drop (prefix_len is_gap xs) xs)
words_behind [] = refl
words_behind (x ∷ xs) = behind_step x xs (is_gap x) refl (words_behind xs)

begins_step : (x : ℕ) (xs : List ℕ) (b : Bool) → is_gap x ≡ b
    → (0 < length (drop (prefix_len is_gap xs) xs) → begins_word (drop (prefix_len is_gap xs) xs) ≡ true)
    → 0 < length (drop (cond b (1 + prefix_len is_gap xs) 0) (x ∷ xs)) → begins_word (drop (cond b (1 + prefix_len is_gap xs) 0) (x ∷ xs)) ≡ true
begins_step x xs true e h some =
    let one : 1 + prefix_len is_gap xs ≡ suc (prefix_len is_gap xs) = omega arith in
    rw one (h (rw one at some))
begins_step x xs false e h some = ap not e

-- behind them a word begins, or nothing is left
pub begins_behind : (xs : List ℕ) → 0 < length (drop (prefix_len is_gap xs) xs) → begins_word (drop (prefix_len is_gap xs) xs) ≡ true
begins_behind [] h = absurd (omega arith)
begins_behind (x ∷ xs) h = begins_step x xs (is_gap x) refl (begins_behind xs) h

none_begins : (xs : List ℕ) → begins_word xs ≡ false → prefix_len no_gap xs ≡ 0
none_begins [] e = refl
none_begins (x ∷ xs) e = rw e refl

first_step : (x : ℕ) (xs : List ℕ) (b : Bool) → begins_word xs ≡ b
    → (begins_word xs ≡ true → words xs ≡ take (prefix_len no_gap xs) xs ∷ words (drop (prefix_len no_gap xs) xs))
    → cond b (with_byte x (words xs)) ((x ∷ []) ∷ words xs) ≡ (x ∷ take (prefix_len no_gap xs) xs) ∷ words (drop (prefix_len no_gap xs) xs)
first_step x xs true e h = ap (with_byte x) (h e)
first_step x xs false e h = let none = none_begins xs e in rw none refl

-- the word is what goes on to the next gap
pub words_first : (xs : List ℕ) → begins_word xs ≡ true → words xs ≡ take (prefix_len no_gap xs) xs ∷ words (drop (prefix_len no_gap xs) xs)
words_first [] h = absurd (true≢false (sym h))
words_first (x ∷ xs) h =
    let gap : is_gap x ≡ false = false_from_not (is_gap x) h in
    let one : 1 + prefix_len no_gap xs ≡ suc (prefix_len no_gap xs) = omega arith in
    rw (gap, one) (first_step x xs (begins_word xs) refl (words_first xs))

-- the first word behind the gaps, and what follows it
pub words_cut : (xs ys : List ℕ) → ys ≡ drop (prefix_len is_gap xs) xs → 0 < length ys → words xs ≡ take (prefix_len no_gap ys) ys
    ∷ words (drop (prefix_len no_gap ys) ys)
words_cut xs ys e some =
    let begins : begins_word ys ≡ true = rw e (begins_behind xs (rw e at some)) in
    words_behind xs ∙ sym (ap words e) ∙ words_first ys begins

pub words_none : (xs ys : List ℕ) → ys ≡ drop (prefix_len is_gap xs) xs → length ys ≡ 0 → words xs ≡ []
words_none xs [] e none = words_behind xs ∙ sym (ap words e)
words_none xs (y ∷ ys) e none = absurd (omega (arith, none))

-- the word has a byte
pub some_word : (xs ys : List ℕ) → ys ≡ drop (prefix_len is_gap xs) xs → 0 < length ys → 0 < prefix_len no_gap ys
some_word xs [] e some = absurd (omega arith)
some_word xs (y ∷ ys) e some =
    let there : 0 < length (drop (prefix_len is_gap xs) xs) = subst (λ (zs : List ℕ). 0 < length zs) e some in
    let begins : not (is_gap y) ≡ true = ap begins_word e ∙ begins_behind xs there in
    rw begins (omega arith)

pub ruleset splits = (prefix_len-le-length, words_cut, words_none, some_word)
