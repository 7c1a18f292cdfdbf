-- The names and texts of a script's tokens are UTF-8, and its numbers have 64 bits.
use Rattle.std.proofs.Common.{◌≡◌, ℕ, zero, suc, ◌+◌, ◌<◌, ◌≤◌, true, List, [], ◌∷◌, ◌++◌, length, take, pos, negsuc, Ok, Err, IsUtf8, sym, subst}
use Rattle.std.proofs.Common.{arith, append_assoc, inl, inr}
use Rattle.std.specs.Prelude.{◌==◌}
use Rattle.std.specs.Char.{is_ascii_digit}
use Rattle.std.specs.List.{list_all}
use Rattle.std.specs.Str.{is_utf8}
use Rattle.std.specs.Str.Lossy.{utf8_valid_len, valid_len_up_to}
use Rattle.std.proofs.lemmas.Bool.{cond_both, eqb-true}
use Rattle.std.proofs.lemmas.Bool.Decides.{nat_tests}
use Rattle.std.proofs.lemmas.List.{take_all}
use Rattle.std.proofs.lemmas.Str.{IsUtf8-append, IsUtf8-nil, IsUtf8-from_is_utf8, IsUtf8-past_char}
use lib.Utf8.{encode, encodes}
use Rattle.sky_base_law.specs.Tasks.{Each}
use Rattle.sky_text.specs.Place.{is_line_feed}
use Rattle.sky_text.specs.Lexing.{is_blank, is_escape, unescaped, tokens_from, tokens_of}
use Rattle.sky_text.specs.Parts.{AreParts, IsGap, LineEnds, Part, Quotes, Spells, escape, gap, joined, none, plain, token, tokens_in}
use Rattle.sky_text.specs.Spelling.{IsKind, spell}
use Rattle.sky_text.specs.declared.lex.LexRefusal.{LexRefusal}
use Rattle.sky_text.specs.declared.token.TokenKind.{TokenKind}
use Rattle.sky_text.specs.declared.token.Token.{Token}
use Rattle.sky_text.proofs.Decimal.{both}
use Rattle.sky_text.proofs.PartsLaw.{gaps_and_tokens}
use Rattle.sky_text.proofs.SpellingUtf8.{spelled_utf8}
use Rattle.sky_text.proofs.TextUtf8.{before_ascii, after_ascii, ascii_utf8}

-- ---- what follows text is text

front_off : (cs ys : List ℕ) → IsUtf8 (encodes cs ++ ys) → IsUtf8 ys
front_off [] ys u = u
front_off (c ∷ cs) ys u =
    front_off cs ys (IsUtf8-past_char (encodes (c ∷ cs) ++ ys) (encodes cs ++ ys) c u (append_assoc (encode c) (encodes cs) ys))

second_utf8 : (xs ys : List ℕ) → IsUtf8 xs → IsUtf8 (xs ++ ys) → IsUtf8 ys
second_utf8 xs ys u v = front_off u.0 ys (subst (λ l. IsUtf8 (l ++ ys)) (sym u.1.1) v)

-- ---- the bytes of a script that has tokens

valid_within : (bs : List ℕ) (n : ℕ) → valid_len_up_to bs n ≤ n
valid_within bs zero = omega arith
valid_within bs (suc n) =
    cond_both (is_utf8 (take (suc n) bs)) (suc n) (valid_len_up_to bs n) (λ m. m ≤ suc n) (λ e. omega arith) (λ e. omega (arith, valid_within bs n))

valid_all : (bs : List ℕ) (n : ℕ) → valid_len_up_to bs n ≡ n → IsUtf8 (take n bs)
valid_all bs zero e = IsUtf8-nil
valid_all bs (suc n) e =
    cond_both (is_utf8 (take (suc n) bs)) (suc n) (valid_len_up_to bs n) (λ m. m ≡ suc n → IsUtf8 (take (suc n) bs))
    (λ u g. IsUtf8-from_is_utf8 (take (suc n) bs) u) (λ u g. absurd (omega (arith, g, valid_within bs n))) e

valid_utf8 : (bs : List ℕ) → utf8_valid_len bs ≡ length bs → IsUtf8 bs
unfolding utf8_valid_len
valid_utf8 bs e = subst IsUtf8 (take_all (length bs) bs (omega arith)) (valid_all bs (length bs) e)

source_utf8 : (bytes : List ℕ) (ts : List Token) → tokens_of bytes ≡ Ok ts → IsUtf8 bytes
unfolding tokens_of
source_utf8 bytes ts e =
    cond_both (utf8_valid_len bytes == length bytes) (tokens_from bytes 0 0 bytes) (Err (LexRefusal.BadByte (utf8_valid_len bytes)))
    (λ r. r ≡ Ok ts → IsUtf8 bytes) (λ t k. valid_utf8 bytes (eqb-true (utf8_valid_len bytes) (length bytes) t)) (λ t k. absurd (cc k)) e

-- ---- parts

blank_ascii : (b : ℕ) → is_blank b ≡ true → b < 128
blank_ascii b h = grind (arith, nat_tests)

feed_ascii : (b : ℕ) → is_line_feed b ≡ true → b < 128
feed_ascii b h = grind (arith, nat_tests)

digit_ascii : (b : ℕ) → is_ascii_digit b ≡ true → b < 128
digit_ascii b h = grind (arith, nat_tests)

escape_ascii : (c : ℕ) → is_escape c ≡ true → c < 128
escape_ascii c h = grind (arith, nat_tests)

unescaped_ascii : (c : ℕ) → c < 128 → unescaped c < 128
unescaped_ascii c h =
    cond_both (c == 110) 10 _ (λ x. x < 128) (λ t. omega arith)
    (λ t. cond_both (c == 116) 9 _ (λ x. x < 128) (λ t. omega arith)
    (λ t. cond_both (c == 114) 13 c (λ x. x < 128) (λ t. omega arith) (λ t. h)))

after_comment : (front rest : List ℕ) → LineEnds rest → IsUtf8 (front ++ rest) → IsUtf8 rest
after_comment front [] e u = IsUtf8-nil
after_comment front (b ∷ r) e u =
    IsUtf8-append (b ∷ []) r (ascii_utf8 b (feed_ascii b e)) (after_ascii front b r u (feed_ascii b e))

after_gap : (g rest : List ℕ) → IsGap g rest → IsUtf8 (g ++ rest) → IsUtf8 rest
after_gap g rest (inl (b, e, blank)) u = after_ascii [] b rest (subst (λ x. IsUtf8 (x ++ rest)) e u) (blank_ascii b blank)
after_gap g rest (inr (x, e, feeds, ends)) u = after_comment g rest ends u

after_digits : (s rest : List ℕ) → list_all is_ascii_digit s ≡ true → IsUtf8 (s ++ rest) → IsUtf8 rest
after_digits [] rest h u = u
after_digits (b ∷ s) rest h u =
    let two = both (is_ascii_digit b) (list_all is_ascii_digit s) h in
    after_digits s rest two.1 (after_ascii [] b (s ++ rest) u (digit_ascii b two.0))

-- the content of a text, where its bytes between the quotes follow xs
content_utf8 : {q c : List ℕ} → Quotes q c → (xs : List ℕ) → IsUtf8 (xs ++ q) → IsUtf8 (xs ++ c)
content_utf8 none xs u = u
content_utf8 (plain b q c is h) xs u =
    subst IsUtf8 (append_assoc xs (b ∷ []) c) (content_utf8 h (xs ++ b ∷ []) (subst IsUtf8 (sym (append_assoc xs (b ∷ []) q)) u))
content_utf8 (escape e q c is h) xs u =
    let low : e < 128 = escape_ascii e is in
    let behind : IsUtf8 (e ∷ q) = after_ascii xs 92 (e ∷ q) u (omega arith) in
    let rest : IsUtf8 q = after_ascii [] e q behind low in
    let front : IsUtf8 (xs ++ unescaped e ∷ []) =
    IsUtf8-append xs (unescaped e ∷ []) (before_ascii xs 92 (e ∷ q) u (omega arith)) (ascii_utf8 (unescaped e) (unescaped_ascii e low)) in
    subst IsUtf8 (append_assoc xs (unescaped e ∷ []) c)
    (content_utf8 h (xs ++ unescaped e ∷ []) (IsUtf8-append (xs ++ unescaped e ∷ []) q front rest))

-- what a token's bytes say of its kind, and of what follows
abbrev Told : TokenKind → List ℕ → Type 0
Told kind rest = IsKind kind × IsUtf8 rest

after_kind : (kind : TokenKind) (rest : List ℕ) → IsKind kind → IsUtf8 (spell kind ++ rest) → Told kind rest
after_kind kind rest k u = (k, second_utf8 (spell kind) rest (spelled_utf8 (kind ∷ []) (k, tt)) u)

after_token : (kind : TokenKind) (s rest : List ℕ) → Spells s kind → IsUtf8 (s ++ rest) → Told kind rest
after_token (TokenKind.Name name) s rest h u = after_kind (TokenKind.Name name) rest h.1 (subst (λ x. IsUtf8 (x ++ rest)) h.0 u)
after_token (TokenKind.Number (pos n)) s rest h u = (h.3, after_digits s rest h.1 u)
after_token (TokenKind.Number (negsuc n)) s rest h u = absurd h
after_token (TokenKind.Word w) s rest h u = after_kind (TokenKind.Word w) rest tt (subst (λ x. IsUtf8 (x ++ rest)) h u)
after_token (TokenKind.Sign g) s rest h u = after_kind (TokenKind.Sign g) rest tt (subst (λ x. IsUtf8 (x ++ rest)) h u)
after_token (TokenKind.Text content) s rest (q, e, quotes) u =
    let whole : IsUtf8 ((34 ∷ q ++ 34 ∷ []) ++ rest) = subst (λ x. IsUtf8 (x ++ rest)) e u in
    let cut : IsUtf8 ((34 ∷ q) ++ 34 ∷ rest) = subst IsUtf8 (append_assoc (34 ∷ q) (34 ∷ []) rest) whole in
    let inner : IsUtf8 q = after_ascii [] 34 q (before_ascii (34 ∷ q) 34 rest cut (omega arith)) (omega arith) in
    (content_utf8 quotes [] inner, after_ascii (34 ∷ q) 34 rest cut (omega arith))

abbrev pub AreTokens : List Token → Type 0
AreTokens ts = Each (λ (t : Token). IsKind t.kind) ts

parts_kinds : (bytes : List ℕ) (at : ℕ) (parts : List Part) → AreParts parts → IsUtf8 (joined parts) → AreTokens (tokens_in bytes at parts)
parts_kinds bytes at [] h u = tt
parts_kinds bytes at (gap g ∷ more) h u = parts_kinds bytes (at + length g) more h.1 (after_gap g (joined more) h.0 u)
parts_kinds bytes at (token s kind ∷ more) h u =
    let told : Told kind (joined more) = after_token kind s (joined more) h.0 u in
    (told.0, parts_kinds bytes (at + length s) more h.1 told.1)

-- the tokens of a script
pub token_kinds : (bytes : List ℕ) (ts : List Token) → tokens_of bytes ≡ Ok ts → AreTokens ts
token_kinds bytes ts e =
    let law = gaps_and_tokens bytes ts e in
    subst AreTokens (sym law.3) (parts_kinds bytes 0 law.0 law.1 (subst IsUtf8 law.2 (source_utf8 bytes ts e)))
