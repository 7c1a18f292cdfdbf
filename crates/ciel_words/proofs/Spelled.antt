-- A text whose first byte alone is a hyphen has a character after it.
use Rattle.std.proofs.Common.{◌≡◌, ℕ, ◌<◌, ◌==◌, List, [], ◌∷◌, ◌++◌, Some, None, length, IsUtf8, slice_get, refl, sym, ap, subst, ◌∙◌, arith, ⊎_elim}
use Rattle.std.proofs.lemmas.Bool.{cases_Bool, eqb-true}
use Rattle.std.proofs.lemmas.Str.{chars_past_char, encodes-chars}
use Rattle.std.specs.Str.{chars}
use Rattle.std.specs.Char.{encode_utf8}
use lib.Utf8.{encodes}
use Rattle.clap.specs.Lexer.{short_of, short_of_rest}
use Rattle.ciel_words.proofs.Walks.{IsSpelled}

no_some : (flags : List ℕ) → None ≡ Some flags → ⊥
no_some flags e = cc

rest_form : (xs flags : List ℕ) → short_of_rest xs ≡ Some flags → (xs ≡ flags) × (0 < length flags)
rest_form [] flags e = absurd (no_some flags e)
rest_form (y ∷ ys) flags e =
    ⊎_elim
    (λ t. absurd (no_some flags (rw t at e)))
    (λ f. let same : Some (y ∷ ys) ≡ Some flags = rw f at e in let is : y ∷ ys ≡ flags = cc in (is, (let n = ap length is in omega arith)))
    (cases_Bool (y == 45))

short_form : (w flags : List ℕ) → short_of w ≡ Some flags → (w ≡ 45 ∷ flags) × (0 < length flags)
short_form [] flags e = absurd (no_some flags e)
short_form (x ∷ xs) flags e =
    ⊎_elim
    (λ t. let rest = rest_form xs flags (rw t at e) in (ap (λ a. a ∷ xs) (eqb-true x 45 t) ∙ ap (λ ys. 45 ∷ ys) rest.0, rest.1))
    (λ f. absurd (no_some flags (rw f at e)))
    (cases_Bool (x == 45))

hyphen : encode_utf8 45 ≡ 45 ∷ []
unfolding encode_utf8
hyphen = refl

one : encodes (45 ∷ []) ≡ 45 ∷ []
unfolding encode_utf8
one = refl

some_char : (cs flags : List ℕ) → chars flags ≡ cs → chars (45 ∷ flags) ≡ 45 ∷ cs → IsUtf8 (45 ∷ flags) → 0 < length flags → (x : ℕ)
    × (slice_get (chars flags) 0 ≡ Some x)
some_char [] flags e all u n =
    let back : encodes (45 ∷ []) ≡ 45 ∷ flags = ap encodes (sym all) ∙ encodes-chars (45 ∷ flags) u in
    absurd (let l = ap length (sym one ∙ back) in omega (arith, n, l))
some_char (c ∷ cs) flags e all u n = (c, ap (λ xs. slice_get xs 0) e)

pub IsSpelled-from_utf8 : (w : List ℕ) → IsUtf8 w → IsSpelled w
IsSpelled-from_utf8 w u flags e =
    let form = short_form w flags e in
    let whole : IsUtf8 (45 ∷ flags) = subst (λ (t : List ℕ). IsUtf8 t) form.0 u in
    some_char (chars flags) flags refl (chars_past_char (45 ∷ flags) flags 45 whole (ap (λ h. h ++ flags) (sym hyphen))) whole form.1
