-- A script as its parts: tokens, and the gaps before, between and behind them.
use Rattle.std.specs.Prelude.{◌≡◌, ℕ, ◌+◌, ◌≤◌, ◌<◌, true, false, pos, negsuc, List, [], ◌∷◌, ◌++◌, length, ◌⊎◌, Ok}
use Rattle.std.specs.Char.{is_ascii_digit}
use Rattle.std.specs.List.{list_all}
use Rattle.sky_text.specs.Place.{is_line_feed}
use Rattle.sky_text.specs.Lexing.{is_blank, is_escape, number_of, token_of, tokens_of, unescaped}
use Rattle.sky_text.specs.Spelling.{IsName, sign_text, word_text}
use Rattle.sky_text.specs.declared.token.TokenKind.{TokenKind}
use Rattle.sky_text.specs.declared.token.Token.{Token}

-- no byte is a line feed
abbrev pub NoFeed : List ℕ → Type 0
NoFeed [] = Unit {0}
NoFeed (b ∷ r) = (is_line_feed b ≡ false) × NoFeed r

-- what follows begins with a line feed, or there is nothing
abbrev pub LineEnds : List ℕ → Type 0
LineEnds [] = Unit {0}
LineEnds (b ∷ r) = is_line_feed b ≡ true

-- a blank; or two slashes and all that follows them on the line
abbrev pub IsGap : List ℕ → List ℕ → Type 0
IsGap gap after =
    ((b : ℕ) × (gap ≡ b ∷ []) × (is_blank b ≡ true))
    ⊎ ((x : List ℕ) × (gap ≡ 47 ∷ 47 ∷ x) × NoFeed x × LineEnds after)

-- a byte of a text that stands for itself: no quote, no backslash and no line feed
abbrev pub IsPlain : ℕ → Type 0
IsPlain b = ¬ (b ≡ 34) × ¬ (b ≡ 92) × ¬ (b ≡ 10)

-- what stands between the quotes of a text, and its content
pub data Quotes : List ℕ → List ℕ → Type 0 where
  none : Quotes [] []
  plain : (b : ℕ) (q c : List ℕ) → IsPlain b → Quotes q c → Quotes (b ∷ q) (b ∷ c)
  escape : (e : ℕ) (q c : List ℕ) → is_escape e ≡ true → Quotes q c → Quotes (92 ∷ e ∷ q) (unescaped e ∷ c)

-- the bytes are a spelling of a token's kind
abbrev pub Spells : List ℕ → TokenKind → Type 0
Spells s (TokenKind.Name name) = (s ≡ name) × IsName name
Spells s (TokenKind.Number (pos n)) = (0 < length s) × (list_all is_ascii_digit s ≡ true) × (number_of s ≡ n) × (n ≤ 9223372036854775807)
Spells s (TokenKind.Number (negsuc n)) = ⊥
Spells s (TokenKind.Text content) = (q : List ℕ) × (s ≡ 34 ∷ q ++ 34 ∷ []) × Quotes q content
Spells s (TokenKind.Word w) = s ≡ word_text w
Spells s (TokenKind.Sign g) = s ≡ sign_text g

-- a part of a script: the bytes of a gap, or those of a token with its kind
pub data Part : Type 0 where
  gap : List ℕ → Part
  token : List ℕ → TokenKind → Part

-- the bytes of parts, one after the other
abbrev pub joined : List Part → List ℕ
joined [] = []
joined (gap g ∷ more) = g ++ joined more
joined (token s kind ∷ more) = s ++ joined more

abbrev pub AreParts : List Part → Type 0
AreParts [] = Unit {0}
AreParts (gap g ∷ more) = IsGap g (joined more) × AreParts more
AreParts (token s kind ∷ more) = Spells s kind × AreParts more

-- the tokens of parts that begin at a place of a script: each from its first byte up to behind its last
abbrev pub tokens_in : List ℕ → ℕ → List Part → List Token
tokens_in bytes at [] = []
tokens_in bytes at (gap g ∷ more) = tokens_in bytes (at + length g) more
tokens_in bytes at (token s kind ∷ more) = token_of bytes at kind (at + length s) ∷ tokens_in bytes (at + length s) more

-- the bytes of a script that has tokens are gaps and tokens, in order and none twice, and these are its
-- tokens
abbrev pub GapsAndTokens : Type 0
GapsAndTokens = (bytes : List ℕ) (ts : List Token) → tokens_of bytes ≡ Ok ts → (parts : List Part) × AreParts parts × (bytes ≡ joined parts)
    × (ts ≡ tokens_in bytes 0 parts)
