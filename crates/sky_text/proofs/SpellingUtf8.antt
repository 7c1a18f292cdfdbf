-- What tokens are spelled with is UTF-8.
use Rattle.std.proofs.Common.{◌≡◌, ℕ, ◌<◌, Bool, true, List, [], ◌∷◌, ◌++◌, pos, negsuc, refl, sym, subst, arith, append_assoc}
use Rattle.std.specs.Prelude.{◌==◌, nat_lt, codes}
use Rattle.std.specs.Char.{is_ascii_digit}
use borrow.Author.Tests.{ltb-true}
use Rattle.std.proofs.lemmas.Bool.Decides.{nat_tests}
use Rattle.sky_text.proofs.Decimal.{both, decimal_digits, name_goes_on}
use Rattle.sky_text.proofs.Leaves.{name_byte_ascii}
use Rattle.std.specs.Str.{IsUtf8}
use Rattle.std.specs.List.{list_all}
use Rattle.std.proofs.lemmas.Bool.{cond_both, eqb-true}
use Rattle.std.proofs.lemmas.Str.{IsUtf8-append, IsUtf8-nil}
use Rattle.sky_text.specs.Lexing.{goes_on_name}
use Rattle.sky_text.specs.Spelling.{AreKinds, IsKind, IsName, decimal, quoted, sign_text, spell, spelled_out, word_text}
use Rattle.sky_text.specs.declared.token.Word.{Word}
use Rattle.sky_text.specs.declared.token.Sign.{Sign}
use Rattle.sky_text.specs.declared.token.TokenKind.{TokenKind}
use Rattle.sky_text.proofs.TextUtf8.{after_ascii, before_ascii, ascii_utf8}

two_ascii : (b c : ℕ) → b < 128 → c < 128 → IsUtf8 (b ∷ c ∷ [])
two_ascii b c h g = IsUtf8-append (b ∷ []) (c ∷ []) (ascii_utf8 b h) (ascii_utf8 c g)

-- an escape in place of the byte that it stands for
escaped : (xs : List ℕ) (b c d : ℕ) (r : List ℕ) → b < 128 → c < 128 → d < 128 → IsUtf8 (xs ++ b ∷ r) → IsUtf8 ((xs ++ c ∷ d ∷ []) ++ r)
escaped xs b c d r h g k u = IsUtf8-append (xs ++ c ∷ d ∷ []) r (IsUtf8-append xs (c ∷ d ∷ []) (before_ascii xs b r u h) (two_ascii c d g k))
    (after_ascii xs b r u h)

pub quoted_utf8 : (xs content : List ℕ) → IsUtf8 (xs ++ content) → IsUtf8 (xs ++ quoted content)
quoted_utf8 xs [] u = u
quoted_utf8 xs (b ∷ r) u =
    let Goal : List ℕ → Type 0 = λ q. IsUtf8 (xs ++ q) in
    let one : (c : ℕ) → b < 128 → c < 128 → IsUtf8 (xs ++ 92 ∷ c ∷ quoted r) =
    λ c h g. subst IsUtf8 (append_assoc xs (92 ∷ c ∷ []) (quoted r))
    (quoted_utf8 (xs ++ 92 ∷ c ∷ []) r (escaped xs b 92 c r h (omega arith) g u)) in
    cond_both (b == 34) _ _ Goal (λ t. let e : b ≡ 34 = eqb-true b 34 t in one 34 (omega arith) (omega arith)) (λ _.
    cond_both (b == 92) _ _ Goal (λ t. let e : b ≡ 92 = eqb-true b 92 t in one 92 (omega arith) (omega arith)) (λ _.
    cond_both (b == 10) _ _ Goal (λ t. let e : b ≡ 10 = eqb-true b 10 t in one 110 (omega arith) (omega arith)) (λ _.
    subst IsUtf8 (append_assoc xs (b ∷ []) (quoted r)) (quoted_utf8 (xs ++ b ∷ []) r (subst IsUtf8 (sym (append_assoc xs (b ∷ []) r)) u)))))

utf8_while : (p : ℕ → Bool) → ((b : ℕ) → p b ≡ true → b < 128) → (xs : List ℕ) → list_all p xs ≡ true → IsUtf8 xs
utf8_while p g [] h = IsUtf8-nil
utf8_while p g (b ∷ r) h = let two = both (p b) (list_all p r) h in IsUtf8-append (b ∷ []) r (ascii_utf8 b (g b two.0)) (utf8_while p g r two.1)

is_low : ℕ → Bool
is_low b = nat_lt b 128

low_ascii : (b : ℕ) → is_low b ≡ true → b < 128
unfolding is_low
low_ascii b h = ltb-true b 128 h

digit_ascii : (b : ℕ) → is_ascii_digit b ≡ true → b < 128
digit_ascii b h = grind (arith, nat_tests)

name_utf8 : (name : List ℕ) → IsName name → IsUtf8 name
name_utf8 [] h = absurd h
name_utf8 (b ∷ q) h = utf8_while goes_on_name name_byte_ascii (b ∷ q) (name_goes_on b q h.0 h.1)

word_utf8 : (w : Word) → IsUtf8 (word_text w)
word_utf8 Word.Function = utf8_while goes_on_name name_byte_ascii (codes "function") refl
word_utf8 Word.Return = utf8_while goes_on_name name_byte_ascii (codes "return") refl
word_utf8 Word.If = utf8_while goes_on_name name_byte_ascii (codes "if") refl
word_utf8 Word.Else = utf8_while goes_on_name name_byte_ascii (codes "else") refl
word_utf8 Word.While = utf8_while goes_on_name name_byte_ascii (codes "while") refl
word_utf8 Word.Do = utf8_while goes_on_name name_byte_ascii (codes "do") refl
word_utf8 Word.For = utf8_while goes_on_name name_byte_ascii (codes "for") refl
word_utf8 Word.In = utf8_while goes_on_name name_byte_ascii (codes "in") refl
word_utf8 Word.True = utf8_while goes_on_name name_byte_ascii (codes "true") refl
word_utf8 Word.False = utf8_while goes_on_name name_byte_ascii (codes "false") refl
word_utf8 Word.Null = utf8_while goes_on_name name_byte_ascii (codes "null") refl
word_utf8 Word.Spawn = utf8_while goes_on_name name_byte_ascii (codes "spawn") refl
word_utf8 Word.SpawnExec = utf8_while goes_on_name name_byte_ascii (codes "spawn_exec") refl
word_utf8 Word.Exec = utf8_while goes_on_name name_byte_ascii (codes "exec") refl
word_utf8 Word.Ref = utf8_while goes_on_name name_byte_ascii (codes "ref") refl
word_utf8 Word.Len = utf8_while goes_on_name name_byte_ascii (codes "len") refl
word_utf8 Word.Keys = utf8_while goes_on_name name_byte_ascii (codes "keys") refl
word_utf8 Word.Has = utf8_while goes_on_name name_byte_ascii (codes "has") refl
word_utf8 Word.Range = utf8_while goes_on_name name_byte_ascii (codes "range") refl

sign_utf8 : (s : Sign) → IsUtf8 (sign_text s)
unfolding is_low
sign_utf8 Sign.OpenRound = utf8_while is_low low_ascii (codes "(") refl
sign_utf8 Sign.CloseRound = utf8_while is_low low_ascii (codes ")") refl
sign_utf8 Sign.OpenCurly = utf8_while is_low low_ascii (codes "{") refl
sign_utf8 Sign.CloseCurly = utf8_while is_low low_ascii (codes "}") refl
sign_utf8 Sign.OpenSquare = utf8_while is_low low_ascii (codes "[") refl
sign_utf8 Sign.CloseSquare = utf8_while is_low low_ascii (codes "]") refl
sign_utf8 Sign.Comma = utf8_while is_low low_ascii (codes ",") refl
sign_utf8 Sign.Semicolon = utf8_while is_low low_ascii (codes ";") refl
sign_utf8 Sign.Colon = utf8_while is_low low_ascii (codes ":") refl
sign_utf8 Sign.Assign = utf8_while is_low low_ascii (codes "=") refl
sign_utf8 Sign.AddAssign = utf8_while is_low low_ascii (codes "+=") refl
sign_utf8 Sign.Plus = utf8_while is_low low_ascii (codes "+") refl
sign_utf8 Sign.Minus = utf8_while is_low low_ascii (codes "-") refl
sign_utf8 Sign.Star = utf8_while is_low low_ascii (codes "*") refl
sign_utf8 Sign.Slash = utf8_while is_low low_ascii (codes "/") refl
sign_utf8 Sign.Percent = utf8_while is_low low_ascii (codes "%") refl
sign_utf8 Sign.Not = utf8_while is_low low_ascii (codes "!") refl
sign_utf8 Sign.Equal = utf8_while is_low low_ascii (codes "==") refl
sign_utf8 Sign.NotEqual = utf8_while is_low low_ascii (codes "!=") refl
sign_utf8 Sign.Less = utf8_while is_low low_ascii (codes "<") refl
sign_utf8 Sign.LessEqual = utf8_while is_low low_ascii (codes "<=") refl
sign_utf8 Sign.Greater = utf8_while is_low low_ascii (codes ">") refl
sign_utf8 Sign.GreaterEqual = utf8_while is_low low_ascii (codes ">=") refl
sign_utf8 Sign.And = utf8_while is_low low_ascii (codes "&&") refl
sign_utf8 Sign.Or = utf8_while is_low low_ascii (codes "||") refl

kind_utf8 : (kind : TokenKind) → IsKind kind → IsUtf8 (spell kind)
kind_utf8 (TokenKind.Name name) h = name_utf8 name h
kind_utf8 (TokenKind.Number (pos n)) h = utf8_while is_ascii_digit digit_ascii (decimal n) (decimal_digits n)
kind_utf8 (TokenKind.Number (negsuc n)) h = absurd h
kind_utf8 (TokenKind.Text content) h = IsUtf8-append (34 ∷ []) (quoted content ++ 34 ∷ []) (ascii_utf8 34 (omega arith))
    (IsUtf8-append (quoted content) (34 ∷ []) (quoted_utf8 [] content h) (ascii_utf8 34 (omega arith)))
kind_utf8 (TokenKind.Word w) h = word_utf8 w
kind_utf8 (TokenKind.Sign s) h = sign_utf8 s

pub spelled_utf8 : (ks : List TokenKind) → AreKinds ks → IsUtf8 (spelled_out ks)
spelled_utf8 [] h = IsUtf8-nil
spelled_utf8 (k ∷ []) h = kind_utf8 k h.0
spelled_utf8 (k ∷ k2 ∷ ks) h = IsUtf8-append (spell k) (32 ∷ spelled_out (k2 ∷ ks)) (kind_utf8 k h.0)
    (IsUtf8-append (32 ∷ []) (spelled_out (k2 ∷ ks)) (ascii_utf8 32 (omega arith)) (spelled_utf8 (k2 ∷ ks) h.1))
