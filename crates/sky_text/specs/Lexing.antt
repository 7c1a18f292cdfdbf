-- The tokens of a script, as the language's reference says them: read from the left, up to the first
-- refusal. The bytes before a token are a gap: blanks and comments.
use Rattle.std.specs.Prelude.{ℕ, zero, suc, ◌+◌, ◌-◌, nat_lt, ◌==◌, ◌&&◌, ◌||◌, if◌then◌else◌, not, Bool, false, pos, List, [], ◌∷◌, length, map}
use Rattle.std.specs.Prelude.{Option, Some, None, Result, Ok, Err}
use Rattle.std.specs.Char.{is_ascii_alphabetic, is_ascii_digit}
use Rattle.std.specs.Int.Digits.{number_from_digits}
use Rattle.std.specs.List.{take_while, prefix_len}
use Rattle.std.specs.Str.Lossy.{utf8_valid_len}
use Rattle.sky_text.specs.Place.{is_line_feed, line_of, column_of}
use Rattle.sky_text.specs.Words.{word_of, short_sign, long_sign}
use Rattle.sky_text.specs.declared.token.Word.{Word}
use Rattle.sky_text.specs.declared.token.Sign.{Sign}
use Rattle.sky_text.specs.declared.token.TokenKind.{TokenKind}
use Rattle.sky_text.specs.declared.token.Token.{Token}
use Rattle.sky_text.specs.declared.lex.LexRefusal.{LexRefusal}

-- an answer, and then what follows from it
abbrev pub and_then : {A B : Type 0} → Result A LexRefusal → (A → Result B LexRefusal) → Result B LexRefusal
and_then (Ok a) next = next a
and_then (Err e) next = Err e

-- Gaps.

-- space, tab, carriage return and line feed
abbrev pub is_blank : ℕ → Bool
is_blank b = b == 32 || b == 9 || b == 13 || b == 10

-- the byte stands first
abbrev pub begins_with : ℕ → List ℕ → Bool
begins_with b [] = false
begins_with b (c ∷ r) = c == b

-- how many bytes before a token stand first, from this byte on: a blank is one; a comment begins with
-- two slashes, and ends before the next line feed or at the end
abbrev pub gap_len : ℕ → List ℕ → ℕ
gap_len b r =
    if is_blank b then 1
    else if b == 47 && begins_with 47 r then 1 + prefix_len (λ c. not (is_line_feed c)) r
    else 0

-- Names and numbers.

abbrev pub begins_name : ℕ → Bool
begins_name b = is_ascii_alphabetic b || b == 95

abbrev pub goes_on_name : ℕ → Bool
goes_on_name b = begins_name b || is_ascii_digit b

abbrev pub word_or_name : Option Word → List ℕ → TokenKind
word_or_name (Some w) name = TokenKind.Word w
word_or_name None name = TokenKind.Name name

-- a name's kind: words are not names
abbrev pub named : List ℕ → TokenKind
named name = word_or_name (word_of name) name

-- the number that decimal digits write
abbrev pub number_of : List ℕ → ℕ
number_of digits = number_from_digits 10 (map (λ d. d - 48) digits)

-- a number of 64 signed bits, or the refusal of one that is too big
abbrev pub number : ℕ → ℕ → Result TokenKind LexRefusal
number at n = if nat_lt 9223372036854775807 n then Err (LexRefusal.BigNumber at) else Ok (TokenKind.Number (pos n))

-- Texts.

abbrev pub is_escape : ℕ → Bool
is_escape c = c == 34 || c == 92 || c == 110 || c == 116 || c == 114

-- what a backslash and this byte stand for: n, t and r for a line feed, a tab and a carriage return
abbrev pub unescaped : ℕ → ℕ
unescaped c = if c == 110 then 10 else if c == 116 then 9 else if c == 114 then 13 else c

abbrev pub with_byte : ℕ → List ℕ × ℕ → Result (List ℕ × ℕ) LexRefusal
with_byte b text = Ok (b ∷ text.0, text.1)

-- the content of a text, and the place behind its closing quote; the first number is the place of the
-- opening quote, and the second that of the bytes
abbrev pub text_from : ℕ → ℕ → List ℕ → Result (List ℕ × ℕ) LexRefusal
text_from quote at [] = Err (LexRefusal.OpenText quote)
text_from quote at (b ∷ []) = if b == 34 then Ok ([], at + 1) else Err (LexRefusal.OpenText quote)
text_from quote at (b ∷ c ∷ r) =
    if b == 34 then Ok ([], at + 1)
    else if b == 10 then Err (LexRefusal.OpenText quote)
    else if b == 92 then
    (if c == 10 then Err (LexRefusal.OpenText quote)
    else if is_escape c then and_then (text_from quote (at + 2) r) (with_byte (unescaped c))
    else Err (LexRefusal.BadEscape at))
    else and_then (text_from quote (at + 1) (c ∷ r)) (with_byte b)

-- the kind of a text, and the place behind it
abbrev pub text_at : ℕ → List ℕ → Result (TokenKind × ℕ) LexRefusal
text_at quote r = and_then (text_from quote (quote + 1) r) (λ text. Ok (TokenKind.Text text.0, text.1))

-- Tokens.

-- the sign of one byte, or the refusal of another byte
abbrev pub short_or_bad : ℕ → Option Sign → Result (TokenKind × ℕ) LexRefusal
short_or_bad at (Some s) = Ok (TokenKind.Sign s, at + 1)
short_or_bad at None = Err (LexRefusal.BadByte at)

abbrev pub long_or_short : ℕ → Option Sign → Option Sign → Result (TokenKind × ℕ) LexRefusal
long_or_short at (Some s) short = Ok (TokenKind.Sign s, at + 2)
long_or_short at None short = short_or_bad at short

-- the longest sign that fits
abbrev pub sign_at : ℕ → ℕ → List ℕ → Result (TokenKind × ℕ) LexRefusal
sign_at at b [] = short_or_bad at (short_sign b)
sign_at at b (c ∷ r) = long_or_short at (long_sign b c) (short_sign b)

-- the kind of the token that stands first, from this byte on, and the place behind it
abbrev pub token_at : ℕ → ℕ → List ℕ → Result (TokenKind × ℕ) LexRefusal
token_at at b r =
    if begins_name b then
    (let name = take_while goes_on_name (b ∷ r) in Ok (named name, at + length name))
    else if is_ascii_digit b then
    (let digits = take_while is_ascii_digit (b ∷ r) in and_then (number at (number_of digits)) (λ kind. Ok (kind, at + length digits)))
    else if b == 34 then text_at at r
    else sign_at at b r

-- the token from one place up to another
abbrev pub token_of : List ℕ → ℕ → TokenKind → ℕ → Token
token_of bytes at kind to = record { kind = kind; from = at; to = to; line = line_of bytes at; col = column_of bytes at }

-- The script.

-- the tokens from a place on, where its bytes are left and so many of them belong to what was read last
abbrev pub tokens_from : List ℕ → ℕ → ℕ → List ℕ → Result (List Token) LexRefusal
tokens_from bytes at read [] = Ok []
tokens_from bytes at (suc read) (b ∷ r) = tokens_from bytes (at + 1) read r
tokens_from bytes at zero (b ∷ r) =
    if nat_lt 0 (gap_len b r) then tokens_from bytes (at + 1) (gap_len b r - 1) r
    else and_then (token_at at b r) (λ found.
    and_then (tokens_from bytes (at + 1) (found.1 - (at + 1)) r) (λ more. Ok (token_of bytes at found.0 found.1 ∷ more)))

-- the tokens of a script, or its first refusal; bytes that are not UTF-8 are refused before all else,
-- where the longest part in front that is UTF-8 ends
unfoldable pub tokens_of : List ℕ → Result (List Token) LexRefusal
tokens_of bytes =
    if utf8_valid_len bytes == length bytes then tokens_from bytes 0 0 bytes
    else Err (LexRefusal.BadByte (utf8_valid_len bytes))

-- the byte at which bytes are refused
abbrev pub byte_of : LexRefusal → ℕ
byte_of (LexRefusal.BadByte byte) = byte
byte_of (LexRefusal.OpenText byte) = byte
byte_of (LexRefusal.BadEscape byte) = byte
byte_of (LexRefusal.BigNumber byte) = byte
byte_of LexRefusal.Memory = 0
