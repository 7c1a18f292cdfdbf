-- Worked rows of the tokens of a script, each computed from the definition.
use Rattle.std.proofs.Common.{◌≡◌, ℕ, [], ◌∷◌, pos, Ok, Err, refl}
use Rattle.std.specs.Prelude.{codes}
use Rattle.std.specs.Str.{is_utf8, chars}
use Rattle.std.specs.Str.Lossy.{utf8_valid_len}
use lib.Utf8.{encode}
use Rattle.sky_text.specs.Place.{place_of}
use Rattle.sky_text.specs.Lexing.{tokens_of}
use Rattle.sky_text.specs.declared.token.Word.{Word}
use Rattle.sky_text.specs.declared.token.Sign.{Sign}
use Rattle.sky_text.specs.declared.token.TokenKind.{TokenKind}
use Rattle.sky_text.specs.declared.token.Token.{Token}
use Rattle.sky_text.specs.declared.lex.LexRefusal.{LexRefusal}

abbrev token : TokenKind → ℕ → ℕ → ℕ → ℕ → Token
token kind from to line col = record { kind = kind; from = from; to = to; line = line; col = col }

-- an assignment has four tokens
assignment : tokens_of (codes "x = 1;") ≡ Ok
    (token (TokenKind.Name (codes "x")) 0 1 1 1 ∷ token (TokenKind.Sign Sign.Assign) 2 3 1 3 ∷ token (TokenKind.Number (pos 1)) 4 5 1 5
    ∷ token (TokenKind.Sign Sign.Semicolon) 5 6 1 6 ∷ [])
unfolding tokens_of utf8_valid_len is_utf8 chars encode
assignment = refl

-- the greatest number
greatest_number : tokens_of (codes "9223372036854775807") ≡ Ok (token (TokenKind.Number (pos 9223372036854775807)) 0 19 1 1 ∷ [])
unfolding tokens_of utf8_valid_len is_utf8 chars encode
greatest_number = refl

-- the next one is refused at its first digit
too_big_number : tokens_of (codes " 9223372036854775808") ≡ Err (LexRefusal.BigNumber 1)
unfolding tokens_of utf8_valid_len is_utf8 chars encode
too_big_number = refl

-- zeros may lead
leading_zeros : tokens_of (codes "0009") ≡ Ok (token (TokenKind.Number (pos 9)) 0 4 1 1 ∷ [])
unfolding tokens_of utf8_valid_len is_utf8 chars encode
leading_zeros = refl

-- a text is not closed before the end
text_open_at_end : tokens_of (34 ∷ 97 ∷ []) ≡ Err (LexRefusal.OpenText 0)
unfolding tokens_of utf8_valid_len is_utf8 chars encode
text_open_at_end = refl

-- or before a line feed, also behind a backslash
text_open_at_line_feed : tokens_of (32 ∷ 34 ∷ 97 ∷ 92 ∷ 10 ∷ 34 ∷ []) ≡ Err (LexRefusal.OpenText 1)
unfolding tokens_of utf8_valid_len is_utf8 chars encode
text_open_at_line_feed = refl

-- a backslash before another character
no_escape : tokens_of (34 ∷ 92 ∷ 120 ∷ 34 ∷ []) ≡ Err (LexRefusal.BadEscape 1)
unfolding tokens_of utf8_valid_len is_utf8 chars encode
no_escape = refl

-- the five escapes
five_escapes : tokens_of (34 ∷ 92 ∷ 110 ∷ 92 ∷ 116 ∷ 92 ∷ 114 ∷ 92 ∷ 34 ∷ 92 ∷ 92 ∷ 34 ∷ [])
    ≡ Ok (token (TokenKind.Text (10 ∷ 9 ∷ 13 ∷ 34 ∷ 92 ∷ [])) 0 12 1 1 ∷ [])
unfolding tokens_of utf8_valid_len is_utf8 chars encode
five_escapes = refl

-- a comment ends before the line feed
comment : tokens_of (97 ∷ 47 ∷ 47 ∷ 98 ∷ 10 ∷ 99 ∷ [])
    ≡ Ok (token (TokenKind.Name (codes "a")) 0 1 1 1 ∷ token (TokenKind.Name (codes "c")) 5 6 2 1 ∷ [])
unfolding tokens_of utf8_valid_len is_utf8 chars encode
comment = refl

-- one slash is a sign
quotient : tokens_of (codes "a/b") ≡ Ok (token (TokenKind.Name (codes "a")) 0 1 1 1 ∷ token (TokenKind.Sign Sign.Slash) 1 2 1 2
    ∷ token (TokenKind.Name (codes "b")) 2 3 1 3 ∷ [])
unfolding tokens_of utf8_valid_len is_utf8 chars encode
quotient = refl

-- one ampersand is no sign
one_ampersand : tokens_of (codes "&&&") ≡ Err (LexRefusal.BadByte 2)
unfolding tokens_of utf8_valid_len is_utf8 chars encode
one_ampersand = refl

-- the longest sign that fits
longest_sign : tokens_of (codes "<== + =") ≡ Ok
    (token (TokenKind.Sign Sign.LessEqual) 0 2 1 1 ∷ token (TokenKind.Sign Sign.Assign) 2 3 1 3 ∷ token (TokenKind.Sign Sign.Plus) 4 5 1 5
    ∷ token (TokenKind.Sign Sign.Assign) 6 7 1 7 ∷ [])
unfolding tokens_of utf8_valid_len is_utf8 chars encode
longest_sign = refl

-- a word, and a name that a word begins
word_and_name : tokens_of (codes "spawn_exec spawn_exec2")
    ≡ Ok (token (TokenKind.Word Word.SpawnExec) 0 10 1 1 ∷ token (TokenKind.Name (codes "spawn_exec2")) 11 22 1 12 ∷ [])
unfolding tokens_of utf8_valid_len is_utf8 chars encode
word_and_name = refl

-- bytes that are not UTF-8 are refused before all else
not_utf8 : tokens_of (35 ∷ 195 ∷ []) ≡ Err (LexRefusal.BadByte 1)
unfolding tokens_of utf8_valid_len is_utf8 chars encode
not_utf8 = refl

-- places count bytes; the end has the place after the last byte
places : place_of (10 ∷ 195 ∷ 169 ∷ 120 ∷ []) 3 ≡ (2, 3)
places = refl

place_of_end : place_of (10 ∷ 195 ∷ 169 ∷ 120 ∷ []) 4 ≡ (2, 4)
place_of_end = refl

place_behind_line_feed : place_of (97 ∷ 10 ∷ []) 2 ≡ (2, 1)
place_behind_line_feed = refl
