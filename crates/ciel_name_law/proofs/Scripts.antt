-- The literals and names of a script that trees make are those of the tokens that the trees spell.
use Rattle.std.proofs.Common.{ℕ, zero, suc, ◌+◌, ◌<◌, ◌/◌, ◌%◌, false, List, [], ◌∷◌, ◌++◌, FitsSigned, IsUtf8, nat_lt, pos, negsuc, sym, subst}
use Rattle.std.proofs.Common.{arith}
use Rattle.std.specs.Prelude.{◌==◌}
use Rattle.std.specs.Fmt.{decimal, digits, digits_onto, digit_glyph}
use Rattle.std.specs.Int.{w64}
use Rattle.std.proofs.lemmas.Bool.{cond_both}
use Rattle.std.proofs.lemmas.Str.{IsUtf8-append, IsUtf8-nil}
use Rattle.sky_base.specs.Tree.{Place, Lit, SignAt, Form, FunDef, Junction, Script}
use Rattle.sky_base_law.specs.Tasks.{Each}
use Rattle.sky_base_law.specs.Typed.{TypedLit, TypedScript}
use Rattle.sky_base_law.specs.Written.{ExpWritten, ExpsWritten, LinksWritten, AndsWritten, StepsWritten, StmWritten, StmsWritten, ArmsWritten, ElseWritten}
use Rattle.sky_base_law.specs.Written.{FunWritten}
use Rattle.sky_text.specs.Spelling.{IsKind}
use Rattle.sky_text.specs.declared.token.TokenKind.{TokenKind}
use Rattle.sky_text.specs.declared.token.Token.{Token}
use Rattle.sky_text.proofs.SpellingUtf8.{spelled_utf8}
use Rattle.sky_text.proofs.TextUtf8.{ascii_utf8}
use Rattle.sky_parse_grammar.specs.Grammar.{Mark, lit_kind, Fits, Follows, spell, spell_signs, spell_exps, spell_others, spell_pairs, spell_value}
use Rattle.sky_parse_grammar.specs.Grammar.{spell_other_pairs, spell_links, spell_ands, spell_steps, spell_stm, spell_stms, spell_arms, spell_other_arms}
use Rattle.sky_parse_grammar.specs.Grammar.{spell_else, spell_params, spell_other_params, started}
use Rattle.sky_parse_grammar.specs.Lifted.{number_name, param_names, count, exps_count, stm_count, stms_count, arms_count, tree, exps_tree, links_tree}
use Rattle.sky_parse_grammar.specs.Lifted.{ands_tree, steps_tree, stm_tree, stms_tree, arms_tree, else_tree, made, exps_made, links_made, ands_made}
use Rattle.sky_parse_grammar.specs.Lifted.{steps_made, stm_made, stms_made, arms_made, else_made}
use Rattle.sky_parse_grammar.specs.Source.{Param, Exp, Exps, Links, Ands, Steps, Stm, Stms, Arms, Else}
use Rattle.sky_parse_grammar.specs.Tops.{Top, defs_of, main_of, made_of, spell_tops, top_count}
use Rattle.sky_parse.specs.Source.{IsScript}
use Rattle.ciel_name_law.proofs.TokenKinds.{AreTokens, token_kinds}

-- ---- marks of tokens

abbrev KindTyped : TokenKind → Type 0
KindTyped (TokenKind.Name x) = IsUtf8 x
KindTyped (TokenKind.Number z) = FitsSigned w64 z
KindTyped (TokenKind.Text t) = IsUtf8 t
KindTyped (TokenKind.Word w) = Unit {0}
KindTyped (TokenKind.Sign s) = Unit {0}

kind_typed : (k : TokenKind) → IsKind k → KindTyped k
kind_typed (TokenKind.Name x) h = spelled_utf8 (TokenKind.Name x ∷ []) (h, tt)
kind_typed (TokenKind.Number (pos n)) h = let lt : n < 9223372036854775808 = omega (arith, h) in record { sfits = lt }
kind_typed (TokenKind.Number (negsuc n)) h = absurd h
kind_typed (TokenKind.Text t) h = h
kind_typed (TokenKind.Word w) h = tt
kind_typed (TokenKind.Sign s) h = tt

abbrev MarkTyped : Mark → Type 0
MarkTyped (Mark.placed k p) = KindTyped k
MarkTyped (Mark.plain k) = KindTyped k
MarkTyped (Mark.also p m) = MarkTyped m

abbrev Marks : List Mark → Type 0
Marks ms = Each MarkTyped ms

fits_typed : (m : Mark) (t : Token) → Fits m t → IsKind t.kind → MarkTyped m
fits_typed (Mark.placed k p) t h i = subst KindTyped h.0 (kind_typed t.kind i)
fits_typed (Mark.plain k) t h i = subst KindTyped h (kind_typed t.kind i)
fits_typed (Mark.also p m) t h i = fits_typed m t h.1 i

marks_typed : (ms : List Mark) (ts : List Token) → Follows ms ts → AreTokens ts → Marks ms
marks_typed [] ts h i = tt
marks_typed (m ∷ ms) [] h i = absurd h
marks_typed (m ∷ ms) (t ∷ ts) h i = (fits_typed m t h.0 i.0, marks_typed ms ts h.1 i.1)

lit_typed : (v : Lit) → KindTyped (lit_kind v) → TypedLit v
lit_typed Lit.null h = tt
lit_typed (Lit.truth b) h = tt
lit_typed (Lit.num z) h = h
lit_typed (Lit.text t) h = h

unstarted : (p : Place) (ms : List Mark) → Marks (started p ms) → Marks ms
unstarted p [] h = tt
unstarted p (m ∷ ms) h = h

-- ---- names of anonymous functions

glyph_ascii : (d : ℕ) → d < 10 → digit_glyph false d < 128
glyph_ascii d h = cond_both (nat_lt d 10) (48 + d) (87 + d) (λ x. x < 128) (λ t. omega arith) (λ t. omega arith)

onto_utf8 : (k n : ℕ) (acc : List ℕ) → IsUtf8 acc → IsUtf8 (digits_onto k 10 false n acc)
onto_utf8 zero n acc u = u
onto_utf8 (suc k) n acc u =
    let one : IsUtf8 (digit_glyph false (n % 10) ∷ acc) =
    IsUtf8-append (digit_glyph false (n % 10) ∷ []) acc (ascii_utf8 (digit_glyph false (n % 10)) (glyph_ascii (n % 10) (omega arith))) u in
    cond_both (n / 10 == 0) (digit_glyph false (n % 10) ∷ acc) (digits_onto k 10 false (n / 10) (digit_glyph false (n % 10) ∷ acc)) IsUtf8
    (λ t. one) (λ t. onto_utf8 k (n / 10) (digit_glyph false (n % 10) ∷ acc) one)

decimal_utf8 : (n : ℕ) → IsUtf8 (decimal n)
unfolding digits
decimal_utf8 n = onto_utf8 64 n [] IsUtf8-nil

number_utf8 : (n : ℕ) → IsUtf8 (number_name n)
number_utf8 n = IsUtf8-append (35 ∷ []) (decimal n) (ascii_utf8 35 (omega arith)) (decimal_utf8 n)

-- ---- trees

abbrev Funs : List FunDef → Type 0
Funs fs = Each (FunWritten TypedLit IsUtf8) fs

both : (fs gs : List FunDef) → Funs fs → Funs gs → Funs (fs ++ gs)
both [] gs h i = i
both (f ∷ fs) gs h i = (h.0, both fs gs h.1 i)

-- what a tree is written with, the functions in it, and the marks behind it
record Told (W : Type 0) (fs : List FunDef) (more : List Mark) : Type 0 where
  tree_is : W
  funs_are : Funs fs
  rest : Marks more

pair : (A B : Type 0) (fs gs : List FunDef) (ms more : List Mark) → Told A fs ms → (Marks ms → Told B gs more) → Told (A × B) (fs ++ gs) more
pair A B fs gs ms more a f =
    let b : Told B gs more = f a.rest in
    record { tree_is = (a.tree_is, b.tree_is); funs_are = both fs gs a.funs_are b.funs_are; rest = b.rest }

signs_told : (ss : List SignAt) (more : List Mark) → Marks (spell_signs ss more) → Marks more
signs_told [] more h = h
signs_told (s ∷ ss) more h = signs_told ss more h.1

other_params : (xs : List Param) (more : List Mark) → Marks (spell_other_params xs more) → Each IsUtf8 (param_names xs) × Marks more
other_params [] more h = (tt, h)
other_params (x ∷ xs) more h = let others = other_params xs more h.1.1 in ((h.1.0, others.0), others.1)

params_told : (xs : List Param) (more : List Mark) → Marks (spell_params xs more) → Each IsUtf8 (param_names xs) × Marks more
params_told [] more h = (tt, h)
params_told (x ∷ xs) more h = let others = other_params xs more h.1 in ((h.0, others.0), others.1)

-- the same of a tree behind which a mark stands that says nothing
pass : (A : Type 0) (fs : List FunDef) (m : Mark) (more : List Mark) → Told A fs (m ∷ more) → Told A fs more
pass A fs m more a = record { tree_is = a.tree_is; funs_are = a.funs_are; rest = a.rest.1 }

-- the parts of an arm: its test, its block, and the arms behind it
three : (A B C : Type 0) (fs gs hs : List FunDef) (ms ns more : List Mark) → Told A fs ms → (Marks ms → Told B gs ns)
    → (Marks ns → Told C hs more) → Told (A × B × C) (fs ++ (gs ++ hs)) more
three A B C fs gs hs ms ns more a f g =
    let b : Told B gs ns = f a.rest in
    let c : Told C hs more = g b.rest in
    record { tree_is = (a.tree_is, b.tree_is, c.tree_is); funs_are = both fs (gs ++ hs) a.funs_are (both gs hs b.funs_are c.funs_are); rest = c.rest }

mutual
  told : (e : Exp) (n : ℕ) (more : List Mark) → Marks (spell e more) → Told (ExpWritten TypedLit IsUtf8 (tree n e)) (made n e) more
  told (Exp.literal v p) n more h = record { tree_is = lit_typed v h.0; funs_are = tt; rest = h.1 }
  told (Exp.name x p) n more h = record { tree_is = h.0; funs_are = tt; rest = h.1 }
  told (Exp.func p xs b) n more h =
      let ps = params_told xs _ h.1.1 in
      let body = stms_told b (n + 1) _ ps.1.1.1 in
      record {
        tree_is = number_utf8 n;
        funs_are = (record { name = number_utf8 n; params = ps.0; body = body.tree_is }, body.funs_are);
        rest = body.rest.1;
      }
  told (Exp.parens e) n more h = pass _ _ _ more (told e n _ h.1)
  told (Exp.parts Form.list p es) n more h = pass _ _ _ more (exps_told es n _ h.1)
  told (Exp.parts Form.dict p es) n more h = pass _ _ _ more (pairs_told es n _ h.1)
  told (Exp.parts Form.spawn p es) n more h = pass _ _ _ more (exps_told es n _ h.1.1)
  told (Exp.parts Form.spawn_exec p es) n more h = pass _ _ _ more (exps_told es n _ h.1.1)
  told (Exp.parts Form.exec p es) n more h = pass _ _ _ more (exps_told es n _ h.1.1)
  told (Exp.parts Form.ref p es) n more h = pass _ _ _ more (exps_told es n _ h.1.1)
  told (Exp.parts Form.len p es) n more h = pass _ _ _ more (exps_told es n _ h.1.1)
  told (Exp.parts Form.keys p es) n more h = pass _ _ _ more (exps_told es n _ h.1.1)
  told (Exp.parts Form.has p es) n more h = pass _ _ _ more (exps_told es n _ h.1.1)
  told (Exp.parts Form.range p es) n more h = pass _ _ _ more (exps_told es n _ h.1.1)
  told (Exp.chain e ls) n more h = pair _ _ _ _ _ more (told e n _ h) (λ k. links_told ls (n + count e) more k)
  told (Exp.logic j e ls) n more h = pair _ _ _ _ _ more (told e n _ h) (λ k. ands_told j ls (n + count e) more k)
  told (Exp.prefix ss e) n more h = told e n more (signs_told ss (spell e more) h)
  told (Exp.postfix e ss) n more h = pair _ _ _ _ _ more (told e n _ h) (λ k. steps_told ss (n + count e) more k)

  exps_told : (es : Exps) (n : ℕ) (more : List Mark) → Marks (spell_exps es more)
      → Told (ExpsWritten TypedLit IsUtf8 (exps_tree n es)) (exps_made n es) more
  exps_told Exps.no_exps n more h = record { tree_is = tt; funs_are = tt; rest = h }
  exps_told (Exps.exp e es) n more h = pair _ _ _ _ _ more (told e n _ h) (λ k. others_told es (n + count e) more k)

  others_told : (es : Exps) (n : ℕ) (more : List Mark) → Marks (spell_others es more)
      → Told (ExpsWritten TypedLit IsUtf8 (exps_tree n es)) (exps_made n es) more
  others_told Exps.no_exps n more h = record { tree_is = tt; funs_are = tt; rest = h }
  others_told (Exps.exp e es) n more h = pair _ _ _ _ _ more (told e n _ h.1) (λ k. others_told es (n + count e) more k)

  pairs_told : (es : Exps) (n : ℕ) (more : List Mark) → Marks (spell_pairs es more)
      → Told (ExpsWritten TypedLit IsUtf8 (exps_tree n es)) (exps_made n es) more
  pairs_told Exps.no_exps n more h = record { tree_is = tt; funs_are = tt; rest = h }
  pairs_told (Exps.exp e es) n more h = pair _ _ _ _ _ more (told e n _ h) (λ k. value_told es (n + count e) more k)

  value_told : (es : Exps) (n : ℕ) (more : List Mark) → Marks (spell_value es more)
      → Told (ExpsWritten TypedLit IsUtf8 (exps_tree n es)) (exps_made n es) more
  value_told Exps.no_exps n more h = record { tree_is = tt; funs_are = tt; rest = h }
  value_told (Exps.exp e es) n more h = pair _ _ _ _ _ more (told e n _ h.1) (λ k. other_pairs_told es (n + count e) more k)

  other_pairs_told : (es : Exps) (n : ℕ) (more : List Mark) → Marks (spell_other_pairs es more)
      → Told (ExpsWritten TypedLit IsUtf8 (exps_tree n es)) (exps_made n es) more
  other_pairs_told Exps.no_exps n more h = record { tree_is = tt; funs_are = tt; rest = h }
  other_pairs_told (Exps.exp e es) n more h = pair _ _ _ _ _ more (told e n _ h.1) (λ k. value_told es (n + count e) more k)

  links_told : (ls : Links) (n : ℕ) (more : List Mark) → Marks (spell_links ls more)
      → Told (LinksWritten TypedLit IsUtf8 (links_tree n ls)) (links_made n ls) more
  links_told Links.no_links n more h = record { tree_is = tt; funs_are = tt; rest = h }
  links_told (Links.link o p e ls) n more h = pair _ _ _ _ _ more (told e n _ h.1) (λ k. links_told ls (n + count e) more k)

  ands_told : (j : Junction) (ls : Ands) (n : ℕ) (more : List Mark) → Marks (spell_ands j ls more)
      → Told (AndsWritten TypedLit IsUtf8 (ands_tree n ls)) (ands_made n ls) more
  ands_told j Ands.no_ands n more h = record { tree_is = tt; funs_are = tt; rest = h }
  ands_told j (Ands.and p e ls) n more h = pair _ _ _ _ _ more (told e n _ h.1) (λ k. ands_told j ls (n + count e) more k)

  steps_told : (ss : Steps) (n : ℕ) (more : List Mark) → Marks (spell_steps ss more)
      → Told (StepsWritten TypedLit IsUtf8 (steps_tree n ss)) (steps_made n ss) more
  steps_told Steps.no_steps n more h = record { tree_is = tt; funs_are = tt; rest = h }
  steps_told (Steps.index e p ss) n more h = pair _ _ _ _ _ more (pass _ _ _ _ (told e n _ h.1)) (λ k. steps_told ss (n + count e) more k)
  steps_told (Steps.call es p ss) n more h = pair _ _ _ _ _ more (pass _ _ _ _ (exps_told es n _ h.1)) (λ k. steps_told ss (n + exps_count es) more k)

  stm_told : (s : Stm) (n : ℕ) (more : List Mark) → Marks (spell_stm s more) → Told (StmWritten TypedLit IsUtf8 (stm_tree n s)) (stm_made n s) more
  stm_told (Stm.set x p e) n more h =
      let part = told e n _ h.1.1 in
      record { tree_is = (h.0, part.tree_is); funs_are = part.funs_are; rest = part.rest.1 }
  stm_told (Stm.add x q p e) n more h =
      let part = told e n _ h.1.1 in
      record { tree_is = (h.0, part.tree_is); funs_are = part.funs_are; rest = part.rest.1 }
  stm_told (Stm.put x q p i e) n more h =
      let parts = pair _ _ _ _ _ _ (pass _ _ _ _ (pass _ _ _ _ (told i n _ h.1.1))) (λ k. told e (n + count i) _ k) in
      record { tree_is = (h.0, parts.tree_is.0, parts.tree_is.1); funs_are = parts.funs_are; rest = parts.rest.1 }
  stm_told (Stm.return p e) n more h = pass _ _ _ more (told e n _ h.1)
  stm_told (Stm.leave p) n more h = record { tree_is = tt; funs_are = tt; rest = h.1.1 }
  stm_told (Stm.cases p arms els) n more h =
      pair _ _ _ _ _ more (arms_told arms n _ (unstarted p (spell_arms arms (spell_else els more)) h))
      (λ k. else_told els (n + arms_count arms) more k)
  stm_told (Stm.while p e b) n more h =
      pass _ _ _ more (pair _ _ _ _ _ _ (pass _ _ _ _ (pass _ _ _ _ (told e n _ h.1.1))) (λ k. stms_told b (n + count e) _ k))
  stm_told (Stm.repeat p b e) n more h =
      pass _ _ _ more (pass _ _ _ _ (pair _ _ _ _ _ _ (pass _ _ _ _ (pass _ _ _ _ (pass _ _ _ _ (stms_told b n _ h.1.1))))
      (λ k. told e (n + stms_count b) _ k)))
  stm_told (Stm.for p x e b) n more h =
      let parts = pair _ _ _ _ _ _ (pass _ _ _ _ (pass _ _ _ _ (told e n _ h.1.1.1.1))) (λ k. stms_told b (n + count e) _ k) in
      record { tree_is = (h.1.1.0, parts.tree_is.0, parts.tree_is.1); funs_are = parts.funs_are; rest = parts.rest.1 }
  stm_told (Stm.just p e) n more h = pass _ _ _ more (told e n _ (unstarted p (spell e _) h))

  stms_told : (ss : Stms) (n : ℕ) (more : List Mark) → Marks (spell_stms ss more)
      → Told (StmsWritten TypedLit IsUtf8 (stms_tree n ss)) (stms_made n ss) more
  stms_told Stms.no_stms n more h = record { tree_is = tt; funs_are = tt; rest = h }
  stms_told (Stms.stm s ss) n more h = pair _ _ _ _ _ more (stm_told s n _ h) (λ k. stms_told ss (n + stm_count s) more k)

  arms_told : (arms : Arms) (n : ℕ) (more : List Mark) → Marks (spell_arms arms more)
      → Told (ArmsWritten TypedLit IsUtf8 (arms_tree n arms)) (arms_made n arms) more
  arms_told Arms.no_arms n more h = record { tree_is = tt; funs_are = tt; rest = h }
  arms_told (Arms.arm p e b arms) n more h =
      three _ _ _ _ _ _ _ _ more (told e n _ h.1.1) (λ k. stms_told b (n + count e) _ k.1.1)
      (λ k. other_arms_told arms (n + count e + stms_count b) more k.1)

  other_arms_told : (arms : Arms) (n : ℕ) (more : List Mark) → Marks (spell_other_arms arms more)
      → Told (ArmsWritten TypedLit IsUtf8 (arms_tree n arms)) (arms_made n arms) more
  other_arms_told Arms.no_arms n more h = record { tree_is = tt; funs_are = tt; rest = h }
  other_arms_told (Arms.arm p e b arms) n more h =
      three _ _ _ _ _ _ _ _ more (told e n _ h.1.1.1) (λ k. stms_told b (n + count e) _ k.1.1)
      (λ k. other_arms_told arms (n + count e + stms_count b) more k.1)

  else_told : (els : Else) (n : ℕ) (more : List Mark) → Marks (spell_else els more)
      → Told (ElseWritten TypedLit IsUtf8 (else_tree n els)) (else_made n els) more
  else_told Else.no_else n more h = record { tree_is = tt; funs_are = tt; rest = h }
  else_told (Else.otherwise b) n more h = pass _ _ _ more (stms_told b n _ h.1.1)

-- ---- scripts

tops_marks : (n : ℕ) (tops : List Top) → Marks (spell_tops tops []) → Funs (defs_of n tops) × StmsWritten TypedLit IsUtf8 (main_of n tops)
    × Funs (made_of n tops)
tops_marks n [] h = (tt, tt, tt)
tops_marks n (Top.fun f ∷ ts) h =
    let ps = params_told f.params _ h.1.1.1 in
    let body = stms_told f.body n _ ps.1.1.1 in
    let more = tops_marks (n + top_count (Top.fun f)) ts body.rest.1 in (
      (record { name = h.1.0; params = ps.0; body = body.tree_is }, more.0),
      more.1,
      both (stms_made n f.body) (made_of (n + top_count (Top.fun f)) ts) body.funs_are more.2,
    )
tops_marks n (Top.stmt s ∷ ts) h =
    let part = stm_told s n _ h in
    let more = tops_marks (n + top_count (Top.stmt s)) ts part.rest in
    (more.0, (part.tree_is, more.1), both (stm_made n s) (made_of (n + top_count (Top.stmt s)) ts) part.funs_are more.2)

-- a script that bytes are
pub script_typed : (source : List ℕ) (keys : List (List ℕ)) (script : Script) → IsScript source keys script → TypedScript script
script_typed source keys script (ts, tops, found, valid, is) =
    let marks : Marks (spell_tops tops []) = marks_typed (spell_tops tops []) ts valid.0.1 (token_kinds source ts found) in
    let all = tops_marks 0 tops marks in
    subst TypedScript (sym is) (record { funs = both (defs_of 0 tops) (made_of 0 tops) all.0 all.2; main = all.1 })
