-- The anonymous functions of a script stand at the words that begin one, in the order of the text.
use Rattle.std.proofs.Common.{◌≡◌, ℕ, ◌+◌, List, [], ◌∷◌, ◌++◌, append_assoc, append-nil, refl, sym, ap, subst, ◌∙◌, Bool, true, false}
use Rattle.std.specs.Prelude.{map, not}
use Rattle.std.proofs.lemmas.List.{map-append}
use Rattle.sky_base.specs.Tree.{Place, Lit, SignAt, Form, Junction, FunDef}
use Rattle.sky_text.specs.declared.token.Sign.{Sign}
use Rattle.sky_text.specs.declared.token.Word.{Word}
use Rattle.sky_text.specs.declared.token.TokenKind.{TokenKind}
use Rattle.sky_text.specs.declared.token.Token.{Token}
use Rattle.sky_parse_grammar.specs.Signs.{is_word}
use Rattle.sky_parse_grammar.specs.Source.{Param, Exp, Exps, Links, Ands, Steps, Stm, Stms, Arms, Else}
use Rattle.sky_parse_grammar.specs.Lifted.{count, exps_count, stm_count, stms_count, arms_count, made, exps_made, links_made, ands_made, steps_made}
use Rattle.sky_parse_grammar.specs.Lifted.{stm_made, stms_made, arms_made, else_made}
use Rattle.sky_parse_grammar.specs.Grammar.{Mark, sign, sign_at, word, word_at, name_at, lit_kind, oper_sign, junction_sign, prefix_sign, started, place}
use Rattle.sky_parse_grammar.specs.Grammar.{Fits, Follows, spell, spell_signs, spell_exps, spell_others, spell_pairs, spell_value, spell_other_pairs}
use Rattle.sky_parse_grammar.specs.Grammar.{spell_links, spell_ands, spell_steps, spell_stm, spell_stms, spell_arms, spell_other_arms, spell_else}
use Rattle.sky_parse_grammar.specs.Grammar.{spell_params, spell_other_params}
use Rattle.sky_parse_grammar.specs.Tops.{Top, top_count, top_made, made_of, spell_top, spell_tops}
use Rattle.sky_parse_grammar.specs.Laws.{function_words, AtTheirWords}

abbrev places : List FunDef → List Place
places fs = map (λ f. f.place) fs

-- the tokens are these marks
record Stand (ms : List Mark) (ts : List Token) : Type 0 where
  are : Follows ms ts

-- of tokens that begin with some marks, these places and then the words of what is left
record Left (ps : List Place) (more : List Mark) (ts : List Token) : Type 0 where
  rest : List Token
  follows : Stand more rest
  words : function_words ts ≡ ps ++ function_words rest

end : {more : List Mark} (ts : List Token) → Stand more ts → Left [] more ts
end ts h = record { rest = ts; follows = h; words = refl }

-- one part and then another
on : {ps qs : List Place} {ms more : List Mark} {ts : List Token} → Left ps ms ts → ((us : List Token) → Stand ms us → Left qs more us)
    → Left (ps ++ qs) more ts
on {ps = ps} {qs = qs} x f =
    let y = f x.rest x.follows in
    record {
      rest = y.rest;
      follows = y.follows;
      words = x.words ∙ ap (λ (us : List Place). ps ++ us) y.words
          ∙ sym (append_assoc ps qs (function_words y.rest));
    }

both : {ms more : List Mark} {ts : List Token} (fs gs : List FunDef) → Left (places fs) ms ts
    → ((us : List Token) → Stand ms us → Left (places gs) more us) → Left (places (fs ++ gs)) more ts
both {more = more} {ts = ts} fs gs x f = subst (λ (ps : List Place). Left ps more ts) (sym (map-append (λ (f : FunDef). f.place) fs gs)) (on x f)

-- ---- tokens that are no word of a function

abbrev other_kind : TokenKind → Bool
other_kind k = not (is_word Word.Function k)

abbrev other : Mark → Bool
other (Mark.placed k p) = other_kind k
other (Mark.plain k) = other_kind k
other (Mark.also p m) = other m

no_word : (b : Bool) → not b ≡ true → b ≡ false
no_word true h = absurd cc
no_word false h = refl

fits_other : (m : Mark) (t : Token) → Fits m t → other m ≡ true → is_word Word.Function t.kind ≡ false
fits_other (Mark.placed k p) t h o = ap (is_word Word.Function) h.0 ∙ no_word (is_word Word.Function k) o
fits_other (Mark.plain k) t h o = ap (is_word Word.Function) h ∙ no_word (is_word Word.Function k) o
fits_other (Mark.also p m) t h o = fits_other m t h.1 o

passed : (t : Token) (ts : List Token) → is_word Word.Function t.kind ≡ false → function_words (t ∷ ts) ≡ function_words ts
passed t ts e = rw e refl

token : {more : List Mark} (m : Mark) → other m ≡ true → (ts : List Token) → Stand (m ∷ more) ts → Left [] more ts
token m o [] h = absurd h.are
token m o (t ∷ ts) h = record { rest = ts; follows = record { are = h.are.1 }; words = passed t ts (fits_other m t h.are.0 o) }

-- such a token and then a part, and a part and then such a token
skip : {ps : List Place} {ms more : List Mark} (m : Mark) → other m ≡ true → (ts : List Token) → Stand (m ∷ ms) ts
    → ((us : List Token) → Stand ms us → Left ps more us) → Left ps more ts
skip m o ts h f = on (token m o ts h) f

after : {ps : List Place} {more : List Mark} {ts : List Token} (m : Mark) → other m ≡ true → Left ps (m ∷ more) ts → Left ps more ts
after {ps = ps} m o x =
    let y = token m o x.rest x.follows in
    record { rest = y.rest; follows = y.follows; words = x.words ∙ ap (λ (us : List Place). ps ++ us) y.words }

unstarted : (p : Place) (ms : List Mark) (ts : List Token) → Stand (started p ms) ts → Stand ms ts
unstarted p [] ts h = h
unstarted p (m ∷ ms) [] h = absurd h.are
unstarted p (m ∷ ms) (t ∷ ts) h = record { are = (h.are.0.1, h.are.1) }

-- ---- words of functions

-- the word of an anonymous function
word_stands : {more : List Mark} (p : Place) (ts : List Token) → Stand (word_at Word.Function p ∷ sign Sign.OpenRound ∷ more) ts
    → Left (p ∷ []) more ts
word_stands p [] h = absurd h.are
word_stands p (t ∷ []) h = absurd h.are.1
word_stands p (t ∷ u ∷ ts) h =
    let kind = h.are.0.0 in
    let bracket = h.are.1.0 in
    let at : place t ≡ p = sym h.are.0.1 in
    record { rest = ts; follows = record { are = h.are.1.1 }; words = rw (kind, bracket) (ap (λ (q : Place). q ∷ function_words ts) at) }

-- the word of a named function
named_stands : {more : List Mark} (x : List ℕ) (p : Place) (ts : List Token) → Stand (word Word.Function ∷ name_at x p ∷ more) ts → Left [] more ts
named_stands x p [] h = absurd h.are
named_stands x p (t ∷ []) h = absurd h.are.1
named_stands x p (t ∷ u ∷ ts) h =
    let kind = h.are.0 in
    let name = h.are.1.0.0 in
    record { rest = ts; follows = record { are = h.are.1.1 }; words = rw (kind, name) refl }

-- ---- each part

signs : {more : List Mark} (ss : List SignAt) (ts : List Token) → Stand (spell_signs ss more) ts → Left [] more ts
signs [] ts h = end ts h
signs (s ∷ ss) ts h = skip (sign_at (prefix_sign s.sign) s.place) refl ts h (λ us k. signs ss us k)

other_params : {more : List Mark} (xs : List Param) (ts : List Token) → Stand (spell_other_params xs more) ts → Left [] more ts
other_params [] ts h = end ts h
other_params (x ∷ xs) ts h = skip (sign Sign.Comma) refl ts h (λ us k. skip (name_at x.name x.place) refl us k (λ vs j. other_params xs vs j))

params : {more : List Mark} (xs : List Param) (ts : List Token) → Stand (spell_params xs more) ts → Left [] more ts
params [] ts h = end ts h
params (x ∷ xs) ts h = skip (name_at x.name x.place) refl ts h (λ us k. other_params xs us k)

literal : (v : Lit) (p : Place) → other (Mark.placed (lit_kind v) p) ≡ true
literal Lit.null p = refl
literal (Lit.truth true) p = refl
literal (Lit.truth false) p = refl
literal (Lit.num z) p = refl
literal (Lit.text t) p = refl

block : {ps : List Place} {more : List Mark} (b : Stms) (ts : List Token)
    → Stand (sign Sign.OpenCurly ∷ spell_stms b (sign Sign.CloseCurly ∷ more)) ts
    → ((us : List Token) → Stand (spell_stms b (sign Sign.CloseCurly ∷ more)) us → Left ps (sign Sign.CloseCurly ∷ more) us) → Left ps more ts
block b ts h f = skip (sign Sign.OpenCurly) refl ts h (λ us k. after (sign Sign.CloseCurly) refl (f us k))

test : {ps : List Place} {more : List Mark} (e : Exp) (ts : List Token) → Stand (sign Sign.OpenRound ∷ spell e (sign Sign.CloseRound ∷ more)) ts
    → ((us : List Token) → Stand (spell e (sign Sign.CloseRound ∷ more)) us → Left ps (sign Sign.CloseRound ∷ more) us) → Left ps more ts
test e ts h f = skip (sign Sign.OpenRound) refl ts h (λ us k. after (sign Sign.CloseRound) refl (f us k))

mutual
  exp : (n : ℕ) (x : Exp) (more : List Mark) (ts : List Token) → Stand (spell x more) ts → Left (places (made n x)) more ts
  exp n (Exp.literal v p) more ts h = token (Mark.placed (lit_kind v) p) (literal v p) ts h
  exp n (Exp.name x p) more ts h = token (name_at x p) refl ts h
  exp n (Exp.func p xs b) more ts h = on (word_stands p ts h)
      (λ us k. on (params xs us k) (λ vs j. skip (sign Sign.CloseRound) refl vs j
      (λ ws i. block b ws i (λ us2 k2. stms (n + 1) b (sign Sign.CloseCurly ∷ more) us2 k2))))
  exp n (Exp.parens e) more ts h = skip (sign Sign.OpenRound) refl ts h
      (λ us k. after (sign Sign.CloseRound) refl (exp n e (sign Sign.CloseRound ∷ more) us k))
  exp n (Exp.parts Form.list p es) more ts h =
      skip (sign_at Sign.OpenSquare p) refl ts h (λ us k. after (sign Sign.CloseSquare) refl (exps n es (sign Sign.CloseSquare ∷ more) us k))
  exp n (Exp.parts Form.dict p es) more ts h =
      skip (sign_at Sign.OpenCurly p) refl ts h (λ us k. after (sign Sign.CloseCurly) refl (pairs n es (sign Sign.CloseCurly ∷ more) us k))
  exp n (Exp.parts Form.spawn p es) more ts h =
      skip (word_at Word.Spawn p) refl ts h (λ us k. skip (sign Sign.OpenRound) refl us k
      (λ vs j. after (sign Sign.CloseRound) refl (exps n es (sign Sign.CloseRound ∷ more) vs j)))
  exp n (Exp.parts Form.spawn_exec p es) more ts h =
      skip (word_at Word.SpawnExec p) refl ts h (λ us k. skip (sign Sign.OpenRound) refl us k
      (λ vs j. after (sign Sign.CloseRound) refl (exps n es (sign Sign.CloseRound ∷ more) vs j)))
  exp n (Exp.parts Form.exec p es) more ts h =
      skip (word_at Word.Exec p) refl ts h (λ us k. skip (sign Sign.OpenRound) refl us k
      (λ vs j. after (sign Sign.CloseRound) refl (exps n es (sign Sign.CloseRound ∷ more) vs j)))
  exp n (Exp.parts Form.ref p es) more ts h =
      skip (word_at Word.Ref p) refl ts h (λ us k. skip (sign Sign.OpenRound) refl us k
      (λ vs j. after (sign Sign.CloseRound) refl (exps n es (sign Sign.CloseRound ∷ more) vs j)))
  exp n (Exp.parts Form.len p es) more ts h =
      skip (word_at Word.Len p) refl ts h (λ us k. skip (sign Sign.OpenRound) refl us k
      (λ vs j. after (sign Sign.CloseRound) refl (exps n es (sign Sign.CloseRound ∷ more) vs j)))
  exp n (Exp.parts Form.keys p es) more ts h =
      skip (word_at Word.Keys p) refl ts h (λ us k. skip (sign Sign.OpenRound) refl us k
      (λ vs j. after (sign Sign.CloseRound) refl (exps n es (sign Sign.CloseRound ∷ more) vs j)))
  exp n (Exp.parts Form.has p es) more ts h =
      skip (word_at Word.Has p) refl ts h (λ us k. skip (sign Sign.OpenRound) refl us k
      (λ vs j. after (sign Sign.CloseRound) refl (exps n es (sign Sign.CloseRound ∷ more) vs j)))
  exp n (Exp.parts Form.range p es) more ts h =
      skip (word_at Word.Range p) refl ts h (λ us k. skip (sign Sign.OpenRound) refl us k
      (λ vs j. after (sign Sign.CloseRound) refl (exps n es (sign Sign.CloseRound ∷ more) vs j)))
  exp n (Exp.chain e ls) more ts h = both (made n e) (links_made (n + count e) ls) (exp n e (spell_links ls more) ts h)
      (λ us k. links (n + count e) ls more us k)
  exp n (Exp.logic j e ls) more ts h = both (made n e) (ands_made (n + count e) ls) (exp n e (spell_ands j ls more) ts h)
      (λ us k. ands (n + count e) j ls more us k)
  exp n (Exp.prefix ss e) more ts h = on (signs ss ts h) (λ us k. exp n e more us k)
  exp n (Exp.postfix e ss) more ts h = both (made n e) (steps_made (n + count e) ss) (exp n e (spell_steps ss more) ts h)
      (λ us k. steps (n + count e) ss more us k)

  exps : (n : ℕ) (x : Exps) (more : List Mark) (ts : List Token) → Stand (spell_exps x more) ts → Left (places (exps_made n x)) more ts
  exps n Exps.no_exps more ts h = end ts h
  exps n (Exps.exp e es) more ts h = both (made n e) (exps_made (n + count e) es) (exp n e (spell_others es more) ts h)
      (λ ws i. others (n + count e) es more ws i)

  others : (n : ℕ) (x : Exps) (more : List Mark) (ts : List Token) → Stand (spell_others x more) ts → Left (places (exps_made n x)) more ts
  others n Exps.no_exps more ts h = end ts h
  others n (Exps.exp e es) more ts h = skip (sign Sign.Comma) refl ts h
      (λ us k. both (made n e) (exps_made (n + count e) es) (exp n e (spell_others es more) us k) (λ ws i. others (n + count e) es more ws i))

  pairs : (n : ℕ) (x : Exps) (more : List Mark) (ts : List Token) → Stand (spell_pairs x more) ts → Left (places (exps_made n x)) more ts
  pairs n Exps.no_exps more ts h = end ts h
  pairs n (Exps.exp e es) more ts h = both (made n e) (exps_made (n + count e) es) (exp n e (spell_value es more) ts h)
      (λ ws i. value (n + count e) es more ws i)

  value : (n : ℕ) (x : Exps) (more : List Mark) (ts : List Token) → Stand (spell_value x more) ts → Left (places (exps_made n x)) more ts
  value n Exps.no_exps more ts h = end ts h
  value n (Exps.exp e es) more ts h = skip (sign Sign.Colon) refl ts h
      (λ us k. both (made n e) (exps_made (n + count e) es) (exp n e (spell_other_pairs es more) us k)
      (λ ws i. other_pairs (n + count e) es more ws i))

  other_pairs : (n : ℕ) (x : Exps) (more : List Mark) (ts : List Token) → Stand (spell_other_pairs x more) ts → Left (places (exps_made n x)) more ts
  other_pairs n Exps.no_exps more ts h = end ts h
  other_pairs n (Exps.exp e es) more ts h = skip (sign Sign.Comma) refl ts h
      (λ us k. both (made n e) (exps_made (n + count e) es) (exp n e (spell_value es more) us k) (λ ws i. value (n + count e) es more ws i))

  links : (n : ℕ) (x : Links) (more : List Mark) (ts : List Token) → Stand (spell_links x more) ts → Left (places (links_made n x)) more ts
  links n Links.no_links more ts h = end ts h
  links n (Links.link o p e ls) more ts h = skip (sign_at (oper_sign o) p) refl ts h
      (λ us k. both (made n e) (links_made (n + count e) ls) (exp n e (spell_links ls more) us k) (λ ws i. links (n + count e) ls more ws i))

  ands : (n : ℕ) (j : Junction) (x : Ands) (more : List Mark) (ts : List Token) → Stand (spell_ands j x more) ts
      → Left (places (ands_made n x)) more ts
  ands n j Ands.no_ands more ts h = end ts h
  ands n j (Ands.and p e ls) more ts h = skip (sign_at (junction_sign j) p) refl ts h
      (λ us k. both (made n e) (ands_made (n + count e) ls) (exp n e (spell_ands j ls more) us k) (λ ws i. ands (n + count e) j ls more ws i))

  steps : (n : ℕ) (x : Steps) (more : List Mark) (ts : List Token) → Stand (spell_steps x more) ts → Left (places (steps_made n x)) more ts
  steps n Steps.no_steps more ts h = end ts h
  steps n (Steps.index e p ss) more ts h = skip (sign_at Sign.OpenSquare p) refl ts h
      (λ us k. both (made n e) (steps_made (n + count e) ss)
      (after (sign Sign.CloseSquare) refl (exp n e (sign Sign.CloseSquare ∷ spell_steps ss more) us k))
      (λ ws i. steps (n + count e) ss more ws i))
  steps n (Steps.call es p ss) more ts h = skip (sign_at Sign.OpenRound p) refl ts h
      (λ us k. both (exps_made n es) (steps_made (n + exps_count es) ss)
      (after (sign Sign.CloseRound) refl (exps n es (sign Sign.CloseRound ∷ spell_steps ss more) us k))
      (λ ws i. steps (n + exps_count es) ss more ws i))

  stm : (n : ℕ) (x : Stm) (more : List Mark) (ts : List Token) → Stand (spell_stm x more) ts → Left (places (stm_made n x)) more ts
  stm n (Stm.set x p e) more ts h = skip (name_at x p) refl ts h
      (λ us k. skip (sign Sign.Assign) refl us k (λ vs j. after (sign Sign.Semicolon) refl (exp n e (sign Sign.Semicolon ∷ more) vs j)))
  stm n (Stm.add x q p e) more ts h = skip (name_at x q) refl ts h
      (λ us k. skip (sign_at Sign.AddAssign p) refl us k (λ vs j. after (sign Sign.Semicolon) refl (exp n e (sign Sign.Semicolon ∷ more) vs j)))
  stm n (Stm.put x q p i e) more ts h = skip (name_at x q) refl ts h
      (λ us k. skip (sign_at Sign.OpenSquare p) refl us k (λ vs j. both (made n i) (made (n + count i) e)
      (after (sign Sign.Assign) refl (after (sign Sign.CloseSquare) refl
      (exp n i (sign Sign.CloseSquare ∷ sign Sign.Assign ∷ spell e (sign Sign.Semicolon ∷ more)) vs j)))
      (λ ws l. after (sign Sign.Semicolon) refl (exp (n + count i) e (sign Sign.Semicolon ∷ more) ws l))))
  stm n (Stm.return p e) more ts h = skip (word_at Word.Return p) refl ts h
      (λ us k. after (sign Sign.Semicolon) refl (exp n e (sign Sign.Semicolon ∷ more) us k))
  stm n (Stm.leave p) more ts h = skip (word_at Word.Return p) refl ts h (λ us k. token (sign Sign.Semicolon) refl us k)
  stm n (Stm.cases p bs els) more ts h = both (arms_made n bs) (else_made (n + arms_count bs) els)
      (arms n bs (spell_else els more) ts (unstarted p (spell_arms bs (spell_else els more)) ts h))
      (λ us k. last (n + arms_count bs) els more us k)
  stm n (Stm.while p e b) more ts h = skip (word_at Word.While p) refl ts h
      (λ us k. both (made n e) (stms_made (n + count e) b)
      (skip (sign Sign.OpenRound) refl us k (λ vs j. after (sign Sign.CloseRound) refl
      (exp n e (sign Sign.CloseRound ∷ sign Sign.OpenCurly ∷ spell_stms b (sign Sign.CloseCurly ∷ more)) vs j)))
      (λ ws i. block b ws i (λ us2 k2. stms (n + count e) b (sign Sign.CloseCurly ∷ more) us2 k2)))
  stm n (Stm.repeat p b e) more ts h = skip (word_at Word.Do p) refl ts h
      (λ us k. both (stms_made n b) (made (n + stms_count b) e)
      (block b us k (λ us2 k2. stms n b (sign Sign.CloseCurly
      ∷ (word Word.While ∷ sign Sign.OpenRound ∷ spell e (sign Sign.CloseRound ∷ sign Sign.Semicolon ∷ more))) us2 k2))
      (λ vs j. skip (word Word.While) refl vs j (λ ws i. skip (sign Sign.OpenRound) refl ws i
      (λ zs l. after (sign Sign.Semicolon) refl
      (after (sign Sign.CloseRound) refl (exp (n + stms_count b) e (sign Sign.CloseRound ∷ sign Sign.Semicolon ∷ more) zs l))))))
  stm n (Stm.for p x e b) more ts h = skip (word_at Word.For p) refl ts h
      (λ us k. skip (sign Sign.OpenRound) refl us k
      (λ vs j. skip (Mark.plain (TokenKind.Name x)) refl vs j (λ ws i. skip (word Word.In) refl ws i (λ zs l.
      both (made n e) (stms_made (n + count e) b)
      (after (sign Sign.CloseRound) refl (exp n e (sign Sign.CloseRound ∷ sign Sign.OpenCurly ∷ spell_stms b (sign Sign.CloseCurly ∷ more))
      zs l)) (λ qs r. block b qs r (λ us2 k2. stms (n + count e) b (sign Sign.CloseCurly ∷ more) us2 k2))))))
  stm n (Stm.just p e) more ts h = after (sign Sign.Semicolon) refl
      (exp n e (sign Sign.Semicolon ∷ more) ts (unstarted p (spell e (sign Sign.Semicolon ∷ more)) ts h))

  stms : (n : ℕ) (x : Stms) (more : List Mark) (ts : List Token) → Stand (spell_stms x more) ts → Left (places (stms_made n x)) more ts
  stms n Stms.no_stms more ts h = end ts h
  stms n (Stms.stm s ss) more ts h = both (stm_made n s) (stms_made (n + stm_count s) ss) (stm n s (spell_stms ss more) ts h)
      (λ us k. stms (n + stm_count s) ss more us k)

  arms : (n : ℕ) (x : Arms) (more : List Mark) (ts : List Token) → Stand (spell_arms x more) ts → Left (places (arms_made n x)) more ts
  arms n Arms.no_arms more ts h = end ts h
  arms n (Arms.arm p e b bs) more ts h = skip (word_at Word.If p) refl ts h
      (λ us k. both (made n e) (stms_made (n + count e) b ++ arms_made (n + count e + stms_count b) bs)
      (test e us k (λ ws i. exp n e (sign Sign.CloseRound ∷ sign Sign.OpenCurly ∷ spell_stms b (sign Sign.CloseCurly ∷ spell_other_arms bs more))
      ws i))
      (λ ws i. both (stms_made (n + count e) b) (arms_made (n + count e + stms_count b) bs)
      (block b ws i (λ zs l. stms (n + count e) b (sign Sign.CloseCurly ∷ spell_other_arms bs more) zs l))
      (λ zs l. other_arms (n + count e + stms_count b) bs more zs l)))

  other_arms : (n : ℕ) (x : Arms) (more : List Mark) (ts : List Token) → Stand (spell_other_arms x more) ts → Left (places (arms_made n x)) more ts
  other_arms n Arms.no_arms more ts h = end ts h
  other_arms n (Arms.arm p e b bs) more ts h =
      skip (word Word.Else) refl ts h (λ us k. skip (word_at Word.If p) refl us k
      (λ vs j. both (made n e) (stms_made (n + count e) b ++ arms_made (n + count e + stms_count b) bs)
      (test e vs j (λ ws i. exp n e (sign Sign.CloseRound ∷ sign Sign.OpenCurly ∷ spell_stms b (sign Sign.CloseCurly ∷ spell_other_arms bs more))
      ws i))
      (λ ws i. both (stms_made (n + count e) b) (arms_made (n + count e + stms_count b) bs)
      (block b ws i (λ zs l. stms (n + count e) b (sign Sign.CloseCurly ∷ spell_other_arms bs more) zs l))
      (λ zs l. other_arms (n + count e + stms_count b) bs more zs l))))

  last : (n : ℕ) (x : Else) (more : List Mark) (ts : List Token) → Stand (spell_else x more) ts → Left (places (else_made n x)) more ts
  last n Else.no_else more ts h = end ts h
  last n (Else.otherwise b) more ts h = skip (word Word.Else) refl ts h
      (λ us k. block b us k (λ us2 k2. stms n b (sign Sign.CloseCurly ∷ more) us2 k2))

top : (n : ℕ) (t : Top) (more : List Mark) (ts : List Token) → Stand (spell_top t more) ts → Left (places (top_made n t)) more ts
top n (Top.fun f) more ts h = on (named_stands f.name f.place ts h)
    (λ us k. skip (sign Sign.OpenRound) refl us k
    (λ vs j. on (params f.params vs j) (λ ws i. skip (sign Sign.CloseRound) refl ws i
    (λ zs l. block f.body zs l (λ us2 k2. stms n f.body (sign Sign.CloseCurly ∷ more) us2 k2)))))
top n (Top.stmt s) more ts h = stm n s more ts h

tops_stand : (n : ℕ) (tops : List Top) (ts : List Token) → Stand (spell_tops tops []) ts → Left (places (made_of n tops)) [] ts
tops_stand n [] ts h = end ts h
tops_stand n (t ∷ tops) ts h = both (top_made n t) (made_of (n + top_count t) tops) (top n t (spell_tops tops []) ts h)
    (λ us k. tops_stand (n + top_count t) tops us k)

none_left : (ts : List Token) → Stand [] ts → function_words ts ≡ []
none_left [] h = refl
none_left (t ∷ ts) h = absurd h.are

pub at_their_words : AtTheirWords
at_their_words = λ tops ts spells.
    let x = tops_stand 0 tops ts (record { are = spells.1 }) in
    let ps = places (made_of 0 tops) in
    sym (x.words ∙ ap (λ (us : List Place). ps ++ us) (none_left x.rest x.follows) ∙ append-nil ps)
