-- Each string and each key that stands in JSON is UTF-8.
use Rattle.std.proofs.Common.{◌≡◌, ℕ, zero, suc, Bool, true, false, List, [], ◌∷◌, ◌++◌, length, Option, Some, None, option_and_then, IsUtf8, refl}
use Rattle.std.proofs.Common.{sym, subst, arith, append_assoc}
use Rattle.std.specs.Prelude.{◌==◌}
use Rattle.std.proofs.lemmas.Bool.{cond_both, eqb-true}
use Rattle.json.specs.Ascii as ascii
use Rattle.json.specs.Json as json
use Rattle.json.specs.Json.{Json, Items, Members, no_items, item, no_members, member, Parse, parse_map, after_end_array, read_key, items_step}
use Rattle.json.specs.Json.{members_step, items, members, value_with, value, if_last}
use Rattle.json.specs.Lex.{Lexeme, token, comma, colon, Class, class, quote, backslash, operator, space, other, operator_lexeme, string_token, Mode}
use Rattle.json.specs.Lex.{between, in_word, in_string, in_escape, lex_byte, lex, Place, fresh, after_value, after_comma, after_key, begins_colon}
use Rattle.json.specs.Lex.{may_begin, may_close, if_allowed, place_token, punctuate, tokens}
use Rattle.json.specs.Text.{content, plain}
use Rattle.json.specs.Token as tok
use Rattle.json.specs.Token.{Token}
use Rattle.json.specs.Word.{is_operator, is_space, word, literal, number_before, after_number, head, ends_word}
use Rattle.sky_base_law.specs.Tasks.{Each}
use Rattle.sky_text.proofs.TextUtf8.{after_ascii}
use Rattle.ciel_name_law.proofs.JsonTexts.{Behind, content_utf8}

abbrev TokenOk : Token → Type 0
TokenOk tok.begin_object = Unit {0}
TokenOk tok.end_object = Unit {0}
TokenOk tok.begin_array = Unit {0}
TokenOk tok.end_array = Unit {0}
TokenOk (tok.key s) = IsUtf8 s
TokenOk (tok.string s) = IsUtf8 s
TokenOk (tok.number s) = Unit {0}
TokenOk (tok.boolean b) = Unit {0}
TokenOk tok.null = Unit {0}
TokenOk tok.bad = Unit {0}

abbrev LexemeOk : Lexeme → Type 0
LexemeOk (token t) = TokenOk t
LexemeOk comma = Unit {0}
LexemeOk colon = Unit {0}

abbrev Tokens : List Token → Type 0
Tokens ts = Each TokenOk ts

abbrev Lexemes : List Lexeme → Type 0
Lexemes ls = Each LexemeOk ls

-- ---- lexemes

literal_ok : (name : List ℕ) (t : Token) (xs : List ℕ) → TokenOk t → TokenOk (literal name t xs)
literal_ok name t xs h = cond_both _ t tok.bad TokenOk (λ _. h) (λ _. tt)

number_ok : (xs : List ℕ) (o : Option (List ℕ)) → TokenOk (number_before xs o)
number_ok xs None = tt
number_ok xs (Some rest) = cond_both (ends_word rest) (tok.number _) tok.bad TokenOk (λ _. tt) (λ _. tt)

word_ok : (xs : List ℕ) → TokenOk (word xs)
unfolding word
word_ok xs =
    cond_both (head xs == ascii.lower_t) _ _ TokenOk (λ _. literal_ok ascii.true_text (tok.boolean true) xs tt) (λ _.
    cond_both (head xs == ascii.lower_f) _ _ TokenOk (λ _. literal_ok ascii.false_text (tok.boolean false) xs tt) (λ _.
    cond_both (head xs == ascii.lower_n) _ _ TokenOk (λ _. literal_ok ascii.null_text tok.null xs tt) (λ _. number_ok xs (after_number xs))))

operator_ok : (x : ℕ) → LexemeOk (operator_lexeme x)
operator_ok x =
    cond_both (x == ascii.open_brace) _ _ LexemeOk (λ _. tt)
    (λ _. cond_both (x == ascii.close_brace) _ _ LexemeOk (λ _. tt)
    (λ _. cond_both (x == ascii.open_bracket) _ _ LexemeOk (λ _. tt)
    (λ _. cond_both (x == ascii.close_bracket) _ _ LexemeOk (λ _. tt)
    (λ _. cond_both (x == ascii.comma) comma colon LexemeOk (λ _. tt) (λ _. tt)))))

string_ok : (o : Option (List ℕ)) → Behind [] o → TokenOk (string_token o)
string_ok None h = tt
string_ok (Some s) h = h

quote_is : (x : ℕ) → class x ≡ quote → x ≡ 34
quote_is x e =
    let Goal : Class → Type 0 = λ c. c ≡ quote → x ≡ 34 in
    cond_both (x == ascii.quote) quote _ Goal (λ t k. eqb-true x 34 t) (λ _.
    cond_both (x == ascii.backslash) backslash _ Goal (λ _ k. absurd (cc k)) (λ _.
    cond_both (is_operator x) operator _ Goal (λ _ k. absurd (cc k)) (λ _.
    cond_both (is_space x) space other Goal (λ _ k. absurd (cc k)) (λ _ k. absurd (cc k))))) e

byte_ok : (m : Mode) (c : Class) (x : ℕ) (xs : List ℕ) (k : Mode → List Lexeme) → (c ≡ quote → IsUtf8 xs) → ((next : Mode) → Lexemes (k next))
    → Lexemes (lex_byte m c x xs k)
byte_ok between quote x xs k u more = (string_ok (content plain xs) (content_utf8 xs [] (u refl)), more in_string)
byte_ok between backslash x xs k u more = (tt, more in_word)
byte_ok between operator x xs k u more = (operator_ok x, more between)
byte_ok between space x xs k u more = more between
byte_ok between other x xs k u more = (word_ok (x ∷ xs), more in_word)
byte_ok in_word quote x xs k u more = more in_word
byte_ok in_word backslash x xs k u more = more in_word
byte_ok in_word operator x xs k u more = (operator_ok x, more between)
byte_ok in_word space x xs k u more = more between
byte_ok in_word other x xs k u more = more in_word
byte_ok in_string quote x xs k u more = more between
byte_ok in_string backslash x xs k u more = more in_escape
byte_ok in_string operator x xs k u more = more in_string
byte_ok in_string space x xs k u more = more in_string
byte_ok in_string other x xs k u more = more in_string
byte_ok in_escape c x xs k u more = more in_string

lex_ok : (xs front : List ℕ) (m : Mode) → IsUtf8 (front ++ xs) → Lexemes (lex m xs)
unfolding lex
lex_ok [] front m u = tt
lex_ok (x ∷ xs) front m u =
    byte_ok m (class x) x xs (λ next. lex next xs) (λ e. let is : x ≡ 34 = quote_is x e in after_ascii front x xs u (omega (arith, is)))
    (λ next. lex_ok xs (front ++ x ∷ []) next (subst IsUtf8 (sym (append_assoc front (x ∷ []) xs)) u))

-- ---- commas and colons

allowed_ok : (b : Bool) (t : Token) (k : Place → List Token) (next : Place) → TokenOk t → ((p : Place) → Tokens (k p))
    → Tokens (if_allowed b t k next)
allowed_ok true t k next h more = (h, more next)
allowed_ok false t k next h more = (tt, tt)

placed_ok : (p : Place) (t : Token) (b : Bool) (k : Place → List Token) → TokenOk t → ((p : Place) → Tokens (k p)) → Tokens (place_token p t b k)
placed_ok p tok.begin_object b k h more = allowed_ok (may_begin p) tok.begin_object k fresh tt more
placed_ok p tok.end_object b k h more = allowed_ok (may_close p) tok.end_object k after_value tt more
placed_ok p tok.begin_array b k h more = allowed_ok (may_begin p) tok.begin_array k fresh tt more
placed_ok p tok.end_array b k h more = allowed_ok (may_close p) tok.end_array k after_value tt more
placed_ok p (tok.key s) b k h more = (tt, tt)
placed_ok p (tok.string s) true k h more = allowed_ok (may_begin p) (tok.key s) k after_key h more
placed_ok p (tok.string s) false k h more = allowed_ok (may_begin p) (tok.string s) k after_value h more
placed_ok p (tok.number s) b k h more = allowed_ok (may_begin p) (tok.number s) k after_value tt more
placed_ok p (tok.boolean c) b k h more = allowed_ok (may_begin p) (tok.boolean c) k after_value tt more
placed_ok p tok.null b k h more = allowed_ok (may_begin p) tok.null k after_value tt more
placed_ok p tok.bad b k h more = (tt, tt)

punctuate_ok : (ls : List Lexeme) (p : Place) → Lexemes ls → Tokens (punctuate p ls)
unfolding punctuate
punctuate_ok [] fresh h = tt
punctuate_ok [] after_value h = tt
punctuate_ok [] after_comma h = (tt, tt)
punctuate_ok [] after_key h = (tt, tt)
punctuate_ok (token t ∷ ls) fresh h = placed_ok fresh t (begins_colon ls) (λ next. punctuate next ls) h.0 (λ next. punctuate_ok ls next h.1)
punctuate_ok (token t ∷ ls) after_value h = placed_ok after_value t (begins_colon ls) (λ next. punctuate next ls) h.0
    (λ next. punctuate_ok ls next h.1)
punctuate_ok (token t ∷ ls) after_comma h = placed_ok after_comma t (begins_colon ls) (λ next. punctuate next ls) h.0
    (λ next. punctuate_ok ls next h.1)
punctuate_ok (token t ∷ ls) after_key h = placed_ok after_key t (begins_colon ls) (λ next. punctuate next ls) h.0 (λ next. punctuate_ok ls next h.1)
punctuate_ok (comma ∷ ls) fresh h = (tt, tt)
punctuate_ok (comma ∷ ls) after_value h = punctuate_ok ls after_comma h.1
punctuate_ok (comma ∷ ls) after_comma h = (tt, tt)
punctuate_ok (comma ∷ ls) after_key h = (tt, tt)
punctuate_ok (colon ∷ ls) fresh h = (tt, tt)
punctuate_ok (colon ∷ ls) after_value h = (tt, tt)
punctuate_ok (colon ∷ ls) after_comma h = (tt, tt)
punctuate_ok (colon ∷ ls) after_key h = punctuate_ok ls fresh h.1

tokens_ok : (xs : List ℕ) → IsUtf8 xs → Tokens (tokens xs)
tokens_ok xs u = punctuate_ok (lex between xs) fresh (lex_ok xs [] between u)

-- ---- values

abbrev mutual
  pub JsonOk : Json → Type 0
  JsonOk json.null = Unit {0}
  JsonOk (json.boolean b) = Unit {0}
  JsonOk (json.number s) = Unit {0}
  JsonOk (json.string s) = IsUtf8 s
  JsonOk (json.array js) = ItemsOk js
  JsonOk (json.object ms) = MembersOk ms

  pub ItemsOk : Items → Type 0
  ItemsOk no_items = Unit {0}
  ItemsOk (item j js) = JsonOk j × ItemsOk js

  pub MembersOk : Members → Type 0
  MembersOk no_members = Unit {0}
  MembersOk (member k j ms) = IsUtf8 k × JsonOk j × MembersOk ms

-- what is parsed, and the tokens behind it
abbrev Parsed : {A : Type 0} → (A → Type 0) → Option (A × List Token) → Type 0
Parsed F None = Unit {0}
Parsed F (Some p) = F p.0 × Tokens p.1

abbrev Parses : {A : Type 0} → (A → Type 0) → Parse A → Type 0
Parses F parse = (ts : List Token) → Tokens ts → Parsed F (parse ts)

mapped : {A B : Type 0} (F : A → Type 0) (G : B → Type 0) (f : A → B) (o : Option (A × List Token)) → Parsed F o → ((a : A) → F a → G (f a))
    → Parsed G (parse_map f o)
mapped F G f None h g = tt
mapped F G f (Some p) h g = (g p.0 h.0, h.1)

chained : {A B : Type 0} (F : A → Type 0) (G : B → Type 0) (o : Option (A × List Token)) (next : A × List Token → Option (B × List Token))
    → Parsed F o → ((p : A × List Token) → F p.0 → Tokens p.1 → Parsed G (next p)) → Parsed G (option_and_then next o)
chained F G None next h g = tt
chained F G (Some p) next h g = g p h.0 h.1

abbrev RestOk : Option (List Token) → Type 0
RestOk None = Unit {0}
RestOk (Some ts) = Tokens ts

array_end : (ts : List Token) → Tokens ts → RestOk (after_end_array ts)
array_end [] h = tt
array_end (tok.begin_object ∷ ts) h = tt
array_end (tok.end_object ∷ ts) h = tt
array_end (tok.begin_array ∷ ts) h = tt
array_end (tok.end_array ∷ ts) h = h.1
array_end (tok.key s ∷ ts) h = tt
array_end (tok.string s ∷ ts) h = tt
array_end (tok.number s ∷ ts) h = tt
array_end (tok.boolean b ∷ ts) h = tt
array_end (tok.null ∷ ts) h = tt
array_end (tok.bad ∷ ts) h = tt

abbrev KeyOk : Option (List ℕ) → Type 0
KeyOk None = Unit {0}
KeyOk (Some k) = IsUtf8 k

key_ok : Parses KeyOk read_key
key_ok [] h = tt
key_ok (tok.begin_object ∷ ts) h = tt
key_ok (tok.end_object ∷ ts) h = (tt, h.1)
key_ok (tok.begin_array ∷ ts) h = tt
key_ok (tok.end_array ∷ ts) h = tt
key_ok (tok.key s ∷ ts) h = (h.0, h.1)
key_ok (tok.string s ∷ ts) h = tt
key_ok (tok.number s ∷ ts) h = tt
key_ok (tok.boolean b ∷ ts) h = tt
key_ok (tok.null ∷ ts) h = tt
key_ok (tok.bad ∷ ts) h = tt

items_step_ok : (v : Parse Json) (more : Parse Items) → Parses JsonOk v → Parses ItemsOk more → (ts : List Token) (o : Option (List Token))
    → Tokens ts → RestOk o → Parsed ItemsOk (items_step v more ts o)
items_step_ok v more hv hm ts (Some rest) h r = (tt, r)
items_step_ok v more hv hm ts None h r =
    chained JsonOk ItemsOk (v ts) _ (hv ts h) (λ p j us. mapped ItemsOk ItemsOk (item p.0) (more p.1) (hm p.1 us) (λ js i. (j, i)))

items_ok : (v : Parse Json) → Parses JsonOk v → (n : ℕ) → Parses ItemsOk (items v n)
unfolding items
items_ok v hv zero ts h = tt
items_ok v hv (suc n) ts h = items_step_ok v (items v n) hv (items_ok v hv n) ts (after_end_array ts) h (array_end ts h)

members_step_ok : (v : Parse Json) (more : Parse Members) → Parses JsonOk v → Parses MembersOk more → (k : Option (List ℕ)) → KeyOk k
    → Parses MembersOk (members_step v more k)
members_step_ok v more hv hm None u ts h = (tt, h)
members_step_ok v more hv hm (Some k) u ts h =
    chained JsonOk MembersOk (v ts) _ (hv ts h) (λ p j us. mapped MembersOk MembersOk (member k p.0) (more p.1) (hm p.1 us) (λ ms i. (u, j, i)))

members_ok : (v : Parse Json) → Parses JsonOk v → (n : ℕ) → Parses MembersOk (members v n)
unfolding members
members_ok v hv zero ts h = tt
members_ok v hv (suc n) ts h =
    chained KeyOk MembersOk (read_key ts) _ (key_ok ts h) (λ p k us. members_step_ok v (members v n) hv (members_ok v hv n) p.0 k p.1 us)

with_ok : (a : Parse Items) (o : Parse Members) → Parses ItemsOk a → Parses MembersOk o → Parses JsonOk (value_with a o)
with_ok a o ha ho [] h = tt
with_ok a o ha ho (tok.begin_object ∷ ts) h = mapped MembersOk JsonOk json.object (o ts) (ho ts h.1) (λ ms i. i)
with_ok a o ha ho (tok.end_object ∷ ts) h = tt
with_ok a o ha ho (tok.begin_array ∷ ts) h = mapped ItemsOk JsonOk json.array (a ts) (ha ts h.1) (λ js i. i)
with_ok a o ha ho (tok.end_array ∷ ts) h = tt
with_ok a o ha ho (tok.key s ∷ ts) h = tt
with_ok a o ha ho (tok.string s ∷ ts) h = (h.0, h.1)
with_ok a o ha ho (tok.number s ∷ ts) h = (tt, h.1)
with_ok a o ha ho (tok.boolean b ∷ ts) h = (tt, h.1)
with_ok a o ha ho (tok.null ∷ ts) h = (tt, h.1)
with_ok a o ha ho (tok.bad ∷ ts) h = tt

value_ok : (depth : ℕ) → Parses JsonOk (value depth)
unfolding value items members
value_ok zero ts h = with_ok (λ us. None) (λ us. None) (λ us i. tt) (λ us i. tt) ts h
value_ok (suc depth) ts h =
    with_ok (λ us. items (value depth) (length us) us) (λ us. members (value depth) (length us) us)
    (λ us i. items_ok (value depth) (value_ok depth) (length us) us i) (λ us i. members_ok (value depth) (value_ok depth) (length us) us i)
    ts h

abbrev pub SomeJson : Option Json → Type 0
SomeJson None = Unit {0}
SomeJson (Some j) = JsonOk j

last_ok : (j : Json) (ts : List Token) → JsonOk j → SomeJson (if_last j ts)
last_ok j [] h = h
last_ok j (t ∷ ts) h = tt

-- the JSON that a UTF-8 text is, nested no deeper than the number
pub parsed_ok : (depth : ℕ) (xs : List ℕ) → IsUtf8 xs → SomeJson (option_and_then (λ p. if_last p.0 p.1) (value depth (tokens xs)))
parsed_ok depth xs u = go (value depth (tokens xs)) (value_ok depth (tokens xs) (tokens_ok xs u))
  where
    go : (o : Option (Json × List Token)) → Parsed JsonOk o → SomeJson (option_and_then (λ p. if_last p.0 p.1) o)
    go None h = tt
    go (Some p) h = last_ok p.0 p.1 h.0
