-- Each name of a script has at least one byte: its tokens do, and so do the marks that these are.
use Rattle.std.proofs.Common.{◌≡◌, ℕ, zero, suc, ◌+◌, ◌-◌, List, [], ◌∷◌, Bool, true, false, ◌||◌, Option, Some, None, Result, Ok, Err, nat_lt, ◌==◌}
use Rattle.std.proofs.Common.{if◌then◌else◌, cond, length, refl, sym, subst}
use Rattle.std.specs.Char.{is_ascii_digit}
use Rattle.std.specs.List.{take_while}
use Rattle.std.proofs.lemmas.List.Sums.{take_while-cons}
use Rattle.std.specs.Str.Lossy.{utf8_valid_len}
use Rattle.sky_base.specs.Tree.{Place, SignAt, Form, Junction}
use Rattle.sky_text.specs.Lexing.{and_then, begins_name, gap_len, goes_on_name, long_or_short, named, number, number_of, short_or_bad}
use Rattle.sky_text.specs.Lexing.{sign_at as lex_sign, text_from, token_at, tokens_from, tokens_of, word_or_name}
use Rattle.sky_text.specs.Words.{long_sign, short_sign, word_of}
use Rattle.sky_text.specs.declared.lex.LexRefusal.{LexRefusal}
use Rattle.sky_text.specs.declared.token.Sign.{Sign}
use Rattle.sky_text.specs.declared.token.Token.{Token}
use Rattle.sky_text.specs.declared.token.TokenKind.{TokenKind}
use Rattle.sky_text.specs.declared.token.Word.{Word}
use Rattle.sky_parse_grammar.specs.Grammar.{Mark, sign, word, started, Fits, Follows, spell, spell_block, spell_signs, spell_exps, spell_others}
use Rattle.sky_parse_grammar.specs.Grammar.{spell_pairs, spell_value, spell_other_pairs, spell_links, spell_ands, spell_steps, spell_stm, spell_stms}
use Rattle.sky_parse_grammar.specs.Grammar.{spell_arms, spell_other_arms, spell_else, spell_params, spell_other_params}
use Rattle.sky_parse_grammar.specs.Source.{Param, Exp, Exps, Links, Ands, Steps, Stm, Stms, Arms, Else}
use Rattle.sky_parse_grammar.specs.Tops.{Top, spell_tops}
use Rattle.sky_base_law.specs.Tasks.{Each}

-- a name has a byte
abbrev pub HasByte : List ℕ → Type 0
HasByte [] = ⊥
HasByte (b ∷ x) = Unit {0}

abbrev KindNamed : TokenKind → Type 0
KindNamed (TokenKind.Name x) = HasByte x
KindNamed _ = Unit {0}

abbrev IsNamed : Mark → Type 0
IsNamed (Mark.placed k p) = KindNamed k
IsNamed (Mark.plain k) = KindNamed k
IsNamed (Mark.also p m) = IsNamed m

abbrev TokenNamed : Token → Type 0
TokenNamed t = KindNamed t.kind

-- ---- tokens

abbrev the : (A : Type 0) → A → A
the A a = a

ok_is : {A : Type 0} (a b : A) → the (Result A LexRefusal) (Ok a) ≡ Ok b → a ≡ b
ok_is a b e = cc

err_ok : {P A : Type 0} (x : LexRefusal) (a : A) → the (Result A LexRefusal) (Err x) ≡ Ok a → P
err_ok x a e = absurd cc

-- where one answer and then another is there, both are
both_ok : {P A B : Type 0} (r : Result A LexRefusal) (next : A → Result B LexRefusal) (b : B) → and_then r next ≡ Ok b
    → ((a : A) → r ≡ Ok a → next a ≡ Ok b → P) → P
both_ok (Ok a) next b e f = f a refl e
both_ok (Err x) next b e f = err_ok x b e

word_named : (o : Option Word) (b : ℕ) (x : List ℕ) → KindNamed (word_or_name o (b ∷ x))
word_named (Some w) b x = tt
word_named None b x = tt

-- a name's first byte is taken
first_taken : (b : ℕ) (r : List ℕ) → begins_name b ≡ true → KindNamed (named (take_while goes_on_name (b ∷ r)))
first_taken b r e = subst (λ xs. KindNamed (named xs)) (sym (take_while-cons goes_on_name b r))
    (go (goes_on_name b) (or_first (begins_name b) (is_ascii_digit b) e))
  where
    or_first : (x y : Bool) → x ≡ true → x || y ≡ true
    or_first true y q = refl
    or_first false y q = absurd cc

    go : (x : Bool) → x ≡ true → KindNamed (named (cond x (b ∷ take_while goes_on_name r) []))
    go true q = word_named (word_of (b ∷ take_while goes_on_name r)) b (take_while goes_on_name r)
    go false q = absurd cc

if_case : {P A : Type 0} (x : Bool) (a b c : A) → (if x then a else b) ≡ c → (x ≡ true → a ≡ c → P) → (x ≡ false → b ≡ c → P) → P
if_case true a b c e f g = f refl e
if_case false a b c e f g = g refl e

number_named : (at n : ℕ) (k : TokenKind) → number at n ≡ Ok k → KindNamed k
number_named at n k e =
    if_case (nat_lt 9223372036854775807 n) _ _ (Ok k) e (λ t q. err_ok _ k q) (λ t q. subst KindNamed (ok_is _ k q) tt)

short_named : (at : ℕ) (o : Option Sign) (found : TokenKind × ℕ) → short_or_bad at o ≡ Ok found → KindNamed found.0
short_named at (Some s) found e = subst (λ (x : TokenKind × ℕ). KindNamed x.0) (ok_is _ found e) tt
short_named at None found e = err_ok _ found e

long_named : (at : ℕ) (o p : Option Sign) (found : TokenKind × ℕ) → long_or_short at o p ≡ Ok found → KindNamed found.0
long_named at (Some s) p found e = subst (λ (x : TokenKind × ℕ). KindNamed x.0) (ok_is _ found e) tt
long_named at None p found e = short_named at p found e

sign_named : (at b : ℕ) (r : List ℕ) (found : TokenKind × ℕ) → lex_sign at b r ≡ Ok found → KindNamed found.0
sign_named at b [] found e = short_named at (short_sign b) found e
sign_named at b (c ∷ r) found e = long_named at (long_sign b c) (short_sign b) found e

token_named : (at b : ℕ) (r : List ℕ) (found : TokenKind × ℕ) → token_at at b r ≡ Ok found → KindNamed found.0
token_named at b r found e =
    if_case (begins_name b) _ _ (Ok found) e (λ t q. subst (λ (x : TokenKind × ℕ). KindNamed x.0) (ok_is _ found q) (first_taken b r t))
    (λ t q. if_case (is_ascii_digit b) _ _ (Ok found) q
    (λ u p. both_ok (number at (number_of (take_while is_ascii_digit (b ∷ r)))) _ found p
    (λ k n o. subst (λ (x : TokenKind × ℕ). KindNamed x.0) (ok_is _ found o) (number_named at _ k n)))
    (λ u p. if_case (b == 34) _ _ (Ok found) p
    (λ v o. both_ok (text_from at (at + 1) r) _ found o (λ x n m. subst (λ (y : TokenKind × ℕ). KindNamed y.0) (ok_is _ found m) tt))
    (λ v o. sign_named at b r found o)))

tokens_named : (bytes : List ℕ) (at read : ℕ) (rest : List ℕ) (ts : List Token) → tokens_from bytes at read rest ≡ Ok ts → Each TokenNamed ts
tokens_named bytes at read [] ts e = subst (Each TokenNamed) (ok_is [] ts e) tt
tokens_named bytes at (suc read) (b ∷ r) ts e = tokens_named bytes (at + 1) read r ts e
tokens_named bytes at zero (b ∷ r) ts e =
    if_case (nat_lt 0 (gap_len b r)) _ _ (Ok ts) e (λ t q. tokens_named bytes (at + 1) (gap_len b r - 1) r ts q)
    (λ t q. both_ok (token_at at b r) _ ts q (λ found n p. both_ok (tokens_from bytes (at + 1) (found.1 - (at + 1)) r) _ ts p
    (λ more m o. subst (Each TokenNamed) (ok_is _ ts o)
    (token_named at b r found n, tokens_named bytes (at + 1) (found.1 - (at + 1)) r more m))))

script_named : (source : List ℕ) (ts : List Token) → tokens_of source ≡ Ok ts → Each TokenNamed ts
unfolding tokens_of
script_named source ts e =
    if_case (utf8_valid_len source == length source) _ _ (Ok ts) e (λ t q. tokens_named source 0 0 source ts q) (λ t q. err_ok _ ts q)

-- ---- marks

fits_named : (m : Mark) (t : Token) → Fits m t → TokenNamed t → IsNamed m
fits_named (Mark.placed k p) t h n = subst KindNamed h.0 n
fits_named (Mark.plain k) t h n = subst KindNamed h n
fits_named (Mark.also p m) t h n = fits_named m t h.1 n

marks_named : (ms : List Mark) (ts : List Token) → Follows ms ts → Each TokenNamed ts → Each IsNamed ms
marks_named [] ts h n = tt
marks_named (m ∷ ms) [] h n = absurd h
marks_named (m ∷ ms) (t ∷ ts) h n = (fits_named m t h.0 n.0, marks_named ms ts h.1 n.1)

unstarted : (p : Place) (ms : List Mark) → Each IsNamed (started p ms) → Each IsNamed ms
unstarted p [] h = h
unstarted p (m ∷ ms) h = h

-- ---- past each part: the marks behind it

past_signs : (ss : List SignAt) (more : List Mark) → Each IsNamed (spell_signs ss more) → Each IsNamed more
past_signs [] more h = h
past_signs (s ∷ ss) more h = past_signs ss more h.1

past_other_params : (xs : List Param) (more : List Mark) → Each IsNamed (spell_other_params xs more) → Each IsNamed more
past_other_params [] more h = h
past_other_params (x ∷ xs) more h = past_other_params xs more h.1.1

past_params : (xs : List Param) (more : List Mark) → Each IsNamed (spell_params xs more) → Each IsNamed more
past_params [] more h = h
past_params (x ∷ xs) more h = past_other_params xs more h.1

mutual
  past : (x : Exp) (more : List Mark) → Each IsNamed (spell x more) → Each IsNamed more
  past (Exp.literal v p) more h = h.1
  past (Exp.name x p) more h = h.1
  past (Exp.func p xs b) more h =
      (past_stms b (sign Sign.CloseCurly ∷ more)
      ((past_params xs (sign Sign.CloseRound ∷ sign Sign.OpenCurly ∷ spell_stms b (sign Sign.CloseCurly ∷ more)) h.1.1).1.1)).1
  past (Exp.parens e) more h = (past e (sign Sign.CloseRound ∷ more) h.1).1
  past (Exp.parts Form.list p es) more h = (past_exps es (sign Sign.CloseSquare ∷ more) h.1).1
  past (Exp.parts Form.dict p es) more h = (past_pairs es (sign Sign.CloseCurly ∷ more) h.1).1
  past (Exp.parts Form.spawn p es) more h = (past_exps es (sign Sign.CloseRound ∷ more) h.1.1).1
  past (Exp.parts Form.spawn_exec p es) more h = (past_exps es (sign Sign.CloseRound ∷ more) h.1.1).1
  past (Exp.parts Form.exec p es) more h = (past_exps es (sign Sign.CloseRound ∷ more) h.1.1).1
  past (Exp.parts Form.ref p es) more h = (past_exps es (sign Sign.CloseRound ∷ more) h.1.1).1
  past (Exp.parts Form.len p es) more h = (past_exps es (sign Sign.CloseRound ∷ more) h.1.1).1
  past (Exp.parts Form.keys p es) more h = (past_exps es (sign Sign.CloseRound ∷ more) h.1.1).1
  past (Exp.parts Form.has p es) more h = (past_exps es (sign Sign.CloseRound ∷ more) h.1.1).1
  past (Exp.parts Form.range p es) more h = (past_exps es (sign Sign.CloseRound ∷ more) h.1.1).1
  past (Exp.chain e ls) more h = past_links ls more (past e (spell_links ls more) h)
  past (Exp.logic j e ls) more h = past_ands j ls more (past e (spell_ands j ls more) h)
  past (Exp.prefix ss e) more h = past e more (past_signs ss (spell e more) h)
  past (Exp.postfix e ss) more h = past_steps ss more (past e (spell_steps ss more) h)

  past_exps : (x : Exps) (more : List Mark) → Each IsNamed (spell_exps x more) → Each IsNamed more
  past_exps Exps.no_exps more h = h
  past_exps (Exps.exp e es) more h = past_others es more (past e (spell_others es more) h)

  past_others : (x : Exps) (more : List Mark) → Each IsNamed (spell_others x more) → Each IsNamed more
  past_others Exps.no_exps more h = h
  past_others (Exps.exp e es) more h = past_others es more (past e (spell_others es more) h.1)

  past_pairs : (x : Exps) (more : List Mark) → Each IsNamed (spell_pairs x more) → Each IsNamed more
  past_pairs Exps.no_exps more h = h
  past_pairs (Exps.exp k es) more h = past_value es more (past k (spell_value es more) h)

  past_value : (x : Exps) (more : List Mark) → Each IsNamed (spell_value x more) → Each IsNamed more
  past_value Exps.no_exps more h = h
  past_value (Exps.exp v es) more h = past_other_pairs es more (past v (spell_other_pairs es more) h.1)

  past_other_pairs : (x : Exps) (more : List Mark) → Each IsNamed (spell_other_pairs x more) → Each IsNamed more
  past_other_pairs Exps.no_exps more h = h
  past_other_pairs (Exps.exp k es) more h = past_value es more (past k (spell_value es more) h.1)

  past_links : (x : Links) (more : List Mark) → Each IsNamed (spell_links x more) → Each IsNamed more
  past_links Links.no_links more h = h
  past_links (Links.link o p e ls) more h = past_links ls more (past e (spell_links ls more) h.1)

  past_ands : (j : Junction) (x : Ands) (more : List Mark) → Each IsNamed (spell_ands j x more) → Each IsNamed more
  past_ands j Ands.no_ands more h = h
  past_ands j (Ands.and p e ls) more h = past_ands j ls more (past e (spell_ands j ls more) h.1)

  past_steps : (x : Steps) (more : List Mark) → Each IsNamed (spell_steps x more) → Each IsNamed more
  past_steps Steps.no_steps more h = h
  past_steps (Steps.index e p ss) more h = past_steps ss more ((past e (sign Sign.CloseSquare ∷ spell_steps ss more) h.1).1)
  past_steps (Steps.call es p ss) more h = past_steps ss more ((past_exps es (sign Sign.CloseRound ∷ spell_steps ss more) h.1).1)

  past_stm : (x : Stm) (more : List Mark) → Each IsNamed (spell_stm x more) → Each IsNamed more
  past_stm (Stm.set x p e) more h = (past e (sign Sign.Semicolon ∷ more) h.1.1).1
  past_stm (Stm.add x q p e) more h = (past e (sign Sign.Semicolon ∷ more) h.1.1).1
  past_stm (Stm.put x q p i e) more h =
      (past e (sign Sign.Semicolon ∷ more)
      ((past i (sign Sign.CloseSquare ∷ sign Sign.Assign ∷ spell e (sign Sign.Semicolon ∷ more)) h.1.1).1.1)).1
  past_stm (Stm.return p e) more h = (past e (sign Sign.Semicolon ∷ more) h.1).1
  past_stm (Stm.leave p) more h = h.1.1
  past_stm (Stm.cases p arms els) more h = past_else els more
      (past_arms arms (spell_else els more) (unstarted p (spell_arms arms (spell_else els more)) h))
  past_stm (Stm.while p e b) more h =
      (past_stms b (sign Sign.CloseCurly ∷ more)
      ((past e (sign Sign.CloseRound ∷ sign Sign.OpenCurly ∷ spell_stms b (sign Sign.CloseCurly ∷ more)) h.1.1).1.1)).1
  past_stm (Stm.repeat p b e) more h =
      (past e (sign Sign.CloseRound ∷ sign Sign.Semicolon ∷ more)
      ((past_stms b (sign Sign.CloseCurly ∷ word Word.While ∷ sign Sign.OpenRound ∷ spell e (sign Sign.CloseRound ∷ sign Sign.Semicolon ∷ more))
      h.1.1).1.1.1)).1.1
  past_stm (Stm.for p x e b) more h =
      (past_stms b (sign Sign.CloseCurly ∷ more)
      ((past e (sign Sign.CloseRound ∷ sign Sign.OpenCurly ∷ spell_stms b (sign Sign.CloseCurly ∷ more)) h.1.1.1.1).1.1)).1
  past_stm (Stm.just p e) more h = (past e (sign Sign.Semicolon ∷ more) (unstarted p (spell e (sign Sign.Semicolon ∷ more)) h)).1

  past_stms : (x : Stms) (more : List Mark) → Each IsNamed (spell_stms x more) → Each IsNamed more
  past_stms Stms.no_stms more h = h
  past_stms (Stms.stm s ss) more h = past_stms ss more (past_stm s (spell_stms ss more) h)

  past_arms : (x : Arms) (more : List Mark) → Each IsNamed (spell_arms x more) → Each IsNamed more
  past_arms Arms.no_arms more h = h
  past_arms (Arms.arm p e b arms) more h = past_other_arms arms more
      ((past_stms b (sign Sign.CloseCurly ∷ spell_other_arms arms more)
      ((past e (sign Sign.CloseRound ∷ sign Sign.OpenCurly ∷ spell_stms b (sign Sign.CloseCurly ∷ spell_other_arms arms more)) h.1.1).1.1)).1)

  past_other_arms : (x : Arms) (more : List Mark) → Each IsNamed (spell_other_arms x more) → Each IsNamed more
  past_other_arms Arms.no_arms more h = h
  past_other_arms (Arms.arm p e b arms) more h =
      past_other_arms arms more ((past_stms b (sign Sign.CloseCurly ∷ spell_other_arms arms more)
      ((past e (sign Sign.CloseRound ∷ sign Sign.OpenCurly ∷ spell_stms b (sign Sign.CloseCurly ∷ spell_other_arms arms more)) h.1.1.1).1.1)).1)

  past_else : (x : Else) (more : List Mark) → Each IsNamed (spell_else x more) → Each IsNamed more
  past_else Else.no_else more h = h
  past_else (Else.otherwise b) more h = (past_stms b (sign Sign.CloseCurly ∷ more) h.1.1).1

-- ---- functions

-- a named function has a name
abbrev pub TopNamed : Top → Type 0
TopNamed (Top.fun f) = HasByte f.name
TopNamed (Top.stmt s) = Unit {0}

tops_marked : (tops : List Top) (more : List Mark) → Each IsNamed (spell_tops tops more) → Each TopNamed tops
tops_marked [] more h = tt
tops_marked (Top.fun f ∷ tops) more h =
    let behind = past_params f.params (sign Sign.CloseRound ∷ spell_block f.body (spell_tops tops more)) h.1.1.1 in
    (h.1.0, tops_marked tops more (past_stms f.body (sign Sign.CloseCurly ∷ spell_tops tops more) behind.1.1).1)
tops_marked (Top.stmt s ∷ tops) more h = (tt, tops_marked tops more (past_stm s (spell_tops tops more) h))

pub tops_named : (source : List ℕ) (ts : List Token) (tops : List Top) → tokens_of source ≡ Ok ts → Follows (spell_tops tops []) ts
    → Each TopNamed tops
tops_named source ts tops e f = tops_marked tops [] (marks_named (spell_tops tops []) ts f (script_named source ts e))
