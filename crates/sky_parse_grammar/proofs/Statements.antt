-- How statements begin, and how the machine reads what begins one.
use Rattle.std.proofs.Common.{◌≡◌, ℕ, suc, ◌≤◌, Option, length, Bool, true, false, cond, List, [], ◌∷◌, refl, sym, ap, subst, ◌∙◌, arith}
use Rattle.std.proofs.lemmas.Bool.{or_parts, cond-false}
use Rattle.std.specs.Prelude.{if◌then◌else◌, ◌||◌}
use Rattle.sky_base.specs.Tree.{Place, Lit, Form, SignAt}
use Rattle.sky_base.specs.Tree as tree
use Rattle.sky_base.specs.Op.{Order}
use Rattle.sky_base.specs.Tree.{Oper, Junction}
use Rattle.sky_text.specs.declared.token.Sign.{Sign}
use Rattle.sky_text.specs.declared.token.Word.{Word}
use Rattle.sky_text.specs.declared.token.TokenKind.{TokenKind}
use Rattle.sky_parse_grammar.specs.declared.level.Level.{Level}
use Rattle.sky_parse_grammar.specs.declared.parts.Shape.{Shape}
use Rattle.sky_parse_grammar.specs.Signs.{is, is_word}
use Rattle.sky_parse_grammar.specs.Grammar.{Mark, sign, sign_at, prefix_sign, oper_sign, started, spell, spell_signs, spell_links, spell_ands, spell_steps}
use Rattle.sky_parse_grammar.specs.Grammar.{spell_stm, spell_stms, spell_params, spell_other_params, IsTree, AreSteps, IsStm, AreStms}
use Rattle.sky_parse_grammar.specs.Source.{Param}
use Rattle.sky_parse_grammar.specs.Machine.{Item, Out, tails, step, goes, run, kind, kinds_of}
use Rattle.sky_parse_grammar.proofs.Operands.{stops, begins, fixed_is}
use Rattle.sky_parse_grammar.specs.Source.{Exp, Links, Ands, Steps, Stm, Stms, Arms, some_signs, weight, steps_weight}
use Rattle.sky_parse_grammar.proofs.Tokens.{is_that_word}

-- a token with which no statement begins; `function` begins one only where a bracket follows
abbrev pub outer : TokenKind → Bool
outer t = is Sign.CloseCurly t || is_word Word.Else t

abbrev pub begins_outer : List Mark → Bool
begins_outer [] = true
begins_outer (m ∷ ms) = outer (kind m)

not_else_first : (d : TokenKind) → outer d ≡ false → is_word Word.Else d ≡ false
not_else_first d b = (or_parts (is Sign.CloseCurly d) (is_word Word.Else d) b).1

sign_inner : (s : tree.Sign) → outer (TokenKind.Sign (prefix_sign s)) ≡ false
sign_inner tree.Sign.not = refl
sign_inner tree.Sign.minus = refl
sign_inner tree.Sign.star = refl

signs_inner : (ss : List SignAt) (more : List Mark) → some_signs ss ≡ true → begins_outer (spell_signs ss more) ≡ false
signs_inner [] more h = absurd cc
signs_inner (s ∷ ss) more h = sign_inner s.sign

pub exp_inner : (e : Exp) → IsTree e → (more : List Mark) → begins_outer (spell e more) ≡ false
exp_inner (Exp.literal Lit.null p) t more = refl
exp_inner (Exp.literal (Lit.truth true) p) t more = refl
exp_inner (Exp.literal (Lit.truth false) p) t more = refl
exp_inner (Exp.literal (Lit.num z) p) t more = refl
exp_inner (Exp.literal (Lit.text x) p) t more = refl
exp_inner (Exp.name x p) t more = refl
exp_inner (Exp.func p xs b) t more = refl
exp_inner (Exp.parens e) t more = refl
exp_inner (Exp.parts Form.list p es) t more = refl
exp_inner (Exp.parts Form.dict p es) t more = refl
exp_inner (Exp.parts Form.spawn p es) t more = refl
exp_inner (Exp.parts Form.spawn_exec p es) t more = refl
exp_inner (Exp.parts Form.exec p es) t more = refl
exp_inner (Exp.parts Form.ref p es) t more = refl
exp_inner (Exp.parts Form.len p es) t more = refl
exp_inner (Exp.parts Form.keys p es) t more = refl
exp_inner (Exp.parts Form.has p es) t more = refl
exp_inner (Exp.parts Form.range p es) t more = refl
exp_inner (Exp.chain e ls) t more = exp_inner e t.0 (spell_links ls more)
exp_inner (Exp.logic j e ls) t more = exp_inner e t.0 (spell_ands j ls more)
exp_inner (Exp.prefix ss e) t more = signs_inner ss (spell e more) t.2
exp_inner (Exp.postfix e ss) t more = exp_inner e t.0 (spell_steps ss more)

started_outer : (p : Place) (ms : List Mark) → begins_outer (started p ms) ≡ begins_outer ms
started_outer p [] = refl
started_outer p (m ∷ ms) = refl

pub started_kinds : (p : Place) (ms : List Mark) → kinds_of (started p ms) ≡ kinds_of ms
started_kinds p [] = refl
started_kinds p (m ∷ ms) = refl

pub stm_inner : (s : Stm) → IsStm s → (more : List Mark) → begins_outer (spell_stm s more) ≡ false
stm_inner (Stm.set x p e) t more = refl
stm_inner (Stm.add x q p e) t more = refl
stm_inner (Stm.put x q p i e) t more = refl
stm_inner (Stm.return p e) t more = refl
stm_inner (Stm.leave p) t more = refl
stm_inner (Stm.cases p Arms.no_arms els) t more = absurd cc
stm_inner (Stm.cases p (Arms.arm q e b arms) els) t more = refl
stm_inner (Stm.while p e b) t more = refl
stm_inner (Stm.repeat p b e) t more = refl
stm_inner (Stm.for p x e b) t more = refl
stm_inner (Stm.just p e) t more = started_outer p (spell e (sign Sign.Semicolon ∷ more)) ∙ exp_inner e t (sign Sign.Semicolon ∷ more)

-- An expression statement: a name that begins one is read apart, since an assignment may begin so too.
abbrev pub stops_assign : List Mark → Bool
stops_assign [] = true
stops_assign (m ∷ ms) = if is Sign.Assign (kind m) then false else if is Sign.AddAssign (kind m) then false else true

neither : (b c : Bool) → cond b false (cond c false true) ≡ true → (b ≡ false) × (c ≡ false)
neither true c e = absurd cc
neither false true e = absurd cc
neither false false e = (refl, refl)

abbrev pub at_square : List Mark → Bool
at_square [] = false
at_square (m ∷ ms) = is Sign.OpenSquare (kind m)

-- an expression is read whole where nothing that follows goes on it
abbrev pub ReadWhole : Exp → Type 0
ReadWhole e = (k : List Item) (more : List Mark) → stops Level.Either more ≡ true → run (Item.level Level.Either ∷ k) (kinds_of (spell e more))
    ≡ run k (kinds_of more)

-- what stands behind a name that begins an expression; an index there weighs no more than so much
pub data Behind (n : ℕ) : List Mark → Type 0 where
  other : (ms : List Mark) → stops_assign ms ≡ true → at_square ms ≡ false → Behind n ms
  index : (i : Exp) (q : Place) (ms : List Mark) → IsTree i → weight i ≤ n → ReadWhole i → stops_assign ms ≡ true
      → Behind n (sign_at Sign.OpenSquare q ∷ spell i (sign Sign.CloseSquare ∷ ms))

pub behind_stops : (n : ℕ) {ms : List Mark} → Behind n ms → stops_assign ms ≡ true
behind_stops n (Behind.other ms s o) = s
behind_stops n (Behind.index i q ms t w c s) = refl

indexed_rest : (k : List Item) (ms : List Mark) → stops_assign ms ≡ true → run (Item.indexed ∷ k) (kinds_of ms)
    ≡ run (Item.steps ∷ tails Level.Either (Item.sign Sign.Semicolon ∷ k)) (kinds_of ms)
indexed_rest k [] s = refl
indexed_rest k (m ∷ ms) s = let a = neither (is Sign.Assign (kind m)) (is Sign.AddAssign (kind m)) s in rw (a.0) refl

named_rest : (k : List Item) (ms : List Mark) → stops_assign ms ≡ true → at_square ms ≡ false → run (Item.named ∷ k) (kinds_of ms)
    ≡ run (Item.steps ∷ tails Level.Either (Item.sign Sign.Semicolon ∷ k)) (kinds_of ms)
named_rest k [] s n = refl
named_rest k (m ∷ ms) s n = let a = neither (is Sign.Assign (kind m)) (is Sign.AddAssign (kind m)) s in rw (a.0, a.1, n) refl

pub behind_rest : (n : ℕ) (k : List Item) {ms : List Mark} → Behind n ms → run (Item.named ∷ k) (kinds_of ms)
    ≡ run (Item.steps ∷ tails Level.Either (Item.sign Sign.Semicolon ∷ k)) (kinds_of ms)
behind_rest n k (Behind.other ms s o) = named_rest k ms s o
behind_rest n k (Behind.index i q ms t w c s) =
    let j = Item.steps ∷ tails Level.Either (Item.sign Sign.Semicolon ∷ k) in
    c (Item.sign Sign.CloseSquare ∷ Item.indexed ∷ k) (sign Sign.CloseSquare ∷ ms) refl ∙ indexed_rest k ms s
    ∙ sym (fixed_is 1 Sign.CloseSquare j (kinds_of (spell i (sign Sign.CloseSquare ∷ ms)))
    ∙ c (Item.others (Shape.Fixed 1 Sign.CloseSquare) 1 ∷ j) (sign Sign.CloseSquare ∷ ms) refl)

steps_assign : (ss : Steps) (more : List Mark) → stops_assign more ≡ true → stops_assign (spell_steps ss more) ≡ true
steps_assign Steps.no_steps more s = s
steps_assign (Steps.index e p ss) more s = refl
steps_assign (Steps.call es p ss) more s = refl

-- the first of the steps, where it is an index, is read
abbrev pub IndexRead : Steps → Type 0
IndexRead Steps.no_steps = Unit {0}
IndexRead (Steps.index e p ss) = ReadWhole e
IndexRead (Steps.call es p ss) = Unit {0}

pub steps_behind : (n : ℕ) (ss : Steps) → AreSteps ss → steps_weight ss ≤ n → IndexRead ss → (more : List Mark) → Behind n more
    → Behind n (spell_steps ss more)
steps_behind n Steps.no_steps t w c more b = b
steps_behind n (Steps.index e p ss) t w c more b =
    Behind.index e p (spell_steps ss more) t.0 (omega (arith, w)) c (steps_assign ss more (behind_stops n b))
steps_behind n (Steps.call es p ss) t w c more b = Behind.other (spell_steps (Steps.call es p ss) more) refl refl

oper_behind : (n : ℕ) (o : Oper) (p : Place) (ms : List Mark) → Behind n (sign_at (oper_sign o) p ∷ ms)
oper_behind n Oper.plus p ms = Behind.other (sign_at Sign.Plus p ∷ ms) refl refl
oper_behind n Oper.minus p ms = Behind.other (sign_at Sign.Minus p ∷ ms) refl refl
oper_behind n Oper.times p ms = Behind.other (sign_at Sign.Star p ∷ ms) refl refl
oper_behind n Oper.over p ms = Behind.other (sign_at Sign.Slash p ∷ ms) refl refl
oper_behind n Oper.rest p ms = Behind.other (sign_at Sign.Percent p ∷ ms) refl refl
oper_behind n (Oper.compare Order.eq) p ms = Behind.other (sign_at Sign.Equal p ∷ ms) refl refl
oper_behind n (Oper.compare Order.ne) p ms = Behind.other (sign_at Sign.NotEqual p ∷ ms) refl refl
oper_behind n (Oper.compare Order.lt) p ms = Behind.other (sign_at Sign.Less p ∷ ms) refl refl
oper_behind n (Oper.compare Order.le) p ms = Behind.other (sign_at Sign.LessEqual p ∷ ms) refl refl
oper_behind n (Oper.compare Order.gt) p ms = Behind.other (sign_at Sign.Greater p ∷ ms) refl refl
oper_behind n (Oper.compare Order.ge) p ms = Behind.other (sign_at Sign.GreaterEqual p ∷ ms) refl refl

pub links_behind : (n : ℕ) (ls : Links) (more : List Mark) → Behind n more → Behind n (spell_links ls more)
links_behind n Links.no_links more b = b
links_behind n (Links.link o p e ls) more b = oper_behind n o p (spell e (spell_links ls more))

pub ands_behind : (n : ℕ) (j : Junction) (ls : Ands) (more : List Mark) → Behind n more → Behind n (spell_ands j ls more)
ands_behind n j Ands.no_ands more b = b
ands_behind n Junction.both (Ands.and p e ls) more b = Behind.other (sign_at Sign.And p ∷ spell e (spell_ands Junction.both ls more)) refl refl
ands_behind n Junction.either (Ands.and p e ls) more b = Behind.other (sign_at Sign.Or p ∷ spell e (spell_ands Junction.either ls more)) refl refl

abbrev pub Alike : List Mark → Type 0
Alike ms = (k : List Item) → run (Item.stmt ∷ k) (kinds_of ms) ≡ run (Item.level Level.Either ∷ Item.sign Sign.Semicolon ∷ k) (kinds_of ms)

pub sign_alike : (s : tree.Sign) (p : Place) (ms : List Mark) → Alike (sign_at (prefix_sign s) p ∷ ms)
sign_alike tree.Sign.not p ms = λ k. refl
sign_alike tree.Sign.minus p ms = λ k. refl
sign_alike tree.Sign.star p ms = λ k. refl

pub signs_alike : (ss : List SignAt) (ms : List Mark) → some_signs ss ≡ true → Alike (spell_signs ss ms)
signs_alike [] ms h = absurd cc
signs_alike (s ∷ ss) ms h = sign_alike s.sign s.place (spell_signs ss ms)

pub begins_back : (k : List Item) (ts : List TokenKind) → begins Sign.Semicolon ts ≡ false → run (Item.back ∷ k) ts
    ≡ run (Item.level Level.Either ∷ Item.sign Sign.Semicolon ∷ k) ts
begins_back k [] b = absurd cc
begins_back k (t ∷ ts) b = rw b refl

-- the statements of a block end here
abbrev pub ends_block : List Mark → Bool
ends_block [] = true
ends_block (m ∷ ms) = is Sign.CloseCurly (kind m)

abbrev pub at_else : List Mark → Bool
at_else [] = false
at_else (m ∷ ms) = is_word Word.Else (kind m)

pub skip_stms : (k : List Item) (more : List Mark) → ends_block more ≡ true → run (Item.stmts ∷ k) (kinds_of more) ≡ run k (kinds_of more)
skip_stms k [] s = refl
skip_stms k (m ∷ ms) s = rw s refl

pub skip_arms : (k : List Item) (more : List Mark) → at_else more ≡ false → run (Item.arms ∷ k) (kinds_of more) ≡ run k (kinds_of more)
skip_arms k [] s = refl
skip_arms k (m ∷ ms) s = rw s refl

pub begins_stms : (k : List Item) (ms : List Mark) → begins_outer ms ≡ false → run (Item.stmts ∷ k) (kinds_of ms)
    ≡ run (Item.stmt ∷ Item.stmts ∷ k) (kinds_of ms)
begins_stms k [] b = absurd cc
begins_stms k (m ∷ ms) b =
    let c = (or_parts (is Sign.CloseCurly (kind m)) (is_word Word.Else (kind m)) b).0 in
    ap (λ (o : Option (List Item)). goes o (λ l. run l (kinds_of ms)) (Out.stuck (suc (length (kinds_of ms)))))
    (cond-false (is Sign.CloseCurly (kind m)) (step k (kind m)) (step (Item.stmt ∷ Item.stmts ∷ k) (kind m)) c)

pub inner_not_else : (ms : List Mark) → begins_outer ms ≡ false → at_else ms ≡ false
inner_not_else [] b = refl
inner_not_else (m ∷ ms) b = not_else_first (kind m) b

curly_not_else : (d : TokenKind) → is Sign.CloseCurly d ≡ true → is_word Word.Else d ≡ false
curly_not_else (TokenKind.Name x) e = refl
curly_not_else (TokenKind.Number n) e = refl
curly_not_else (TokenKind.Text x) e = refl
curly_not_else (TokenKind.Word w) e = absurd cc
curly_not_else (TokenKind.Sign s) e = refl

pub end_not_else : (ms : List Mark) → ends_block ms ≡ true → at_else ms ≡ false
end_not_else [] s = refl
end_not_else (m ∷ ms) s = curly_not_else (kind m) s

pub stms_not_else : (ss : Stms) → AreStms ss → (more : List Mark) → ends_block more ≡ true → at_else (spell_stms ss more) ≡ false
stms_not_else Stms.no_stms t more s = end_not_else more s
stms_not_else (Stms.stm a ss) t more s = inner_not_else (spell_stm a (spell_stms ss more)) (stm_inner a t.0 (spell_stms ss more))

-- `(` stands first
abbrev pub at_round : List Mark → Bool
at_round [] = false
at_round (m ∷ ms) = is Sign.OpenRound (kind m)

-- no named function stands first: a word `function` has its bracket behind it
abbrev pub starts_stmt : List Mark → Bool
starts_stmt [] = true
starts_stmt (m ∷ ms) = if is_word Word.Function (kind m) then at_round ms else true

sign_starts : (s : tree.Sign) (p : Place) (more : List Mark) → starts_stmt (sign_at (prefix_sign s) p ∷ more) ≡ true
sign_starts tree.Sign.not p more = refl
sign_starts tree.Sign.minus p more = refl
sign_starts tree.Sign.star p more = refl

exp_starts : (e : Exp) → IsTree e → (more : List Mark) → starts_stmt (spell e more) ≡ true
exp_starts (Exp.literal Lit.null p) t more = refl
exp_starts (Exp.literal (Lit.truth true) p) t more = refl
exp_starts (Exp.literal (Lit.truth false) p) t more = refl
exp_starts (Exp.literal (Lit.num z) p) t more = refl
exp_starts (Exp.literal (Lit.text x) p) t more = refl
exp_starts (Exp.name x p) t more = refl
exp_starts (Exp.func p xs b) t more = refl
exp_starts (Exp.parens e) t more = refl
exp_starts (Exp.parts Form.list p es) t more = refl
exp_starts (Exp.parts Form.dict p es) t more = refl
exp_starts (Exp.parts Form.spawn p es) t more = refl
exp_starts (Exp.parts Form.spawn_exec p es) t more = refl
exp_starts (Exp.parts Form.exec p es) t more = refl
exp_starts (Exp.parts Form.ref p es) t more = refl
exp_starts (Exp.parts Form.len p es) t more = refl
exp_starts (Exp.parts Form.keys p es) t more = refl
exp_starts (Exp.parts Form.has p es) t more = refl
exp_starts (Exp.parts Form.range p es) t more = refl
exp_starts (Exp.chain e ls) t more = exp_starts e t.0 (spell_links ls more)
exp_starts (Exp.logic j e ls) t more = exp_starts e t.0 (spell_ands j ls more)
exp_starts (Exp.prefix [] e) t more = absurd cc
exp_starts (Exp.prefix (s ∷ ss) e) t more = sign_starts s.sign s.place (spell_signs ss (spell e more))
exp_starts (Exp.postfix e ss) t more = exp_starts e t.0 (spell_steps ss more)

started_starts : (p : Place) (ms : List Mark) → starts_stmt (started p ms) ≡ starts_stmt ms
started_starts p [] = refl
started_starts p (m ∷ ms) = refl

pub stm_starts : (s : Stm) → IsStm s → (more : List Mark) → starts_stmt (spell_stm s more) ≡ true
stm_starts (Stm.set x p e) t more = refl
stm_starts (Stm.add x q p e) t more = refl
stm_starts (Stm.put x q p i e) t more = refl
stm_starts (Stm.return p e) t more = refl
stm_starts (Stm.leave p) t more = refl
stm_starts (Stm.cases p Arms.no_arms els) t more = absurd cc
stm_starts (Stm.cases p (Arms.arm q e b arms) els) t more = refl
stm_starts (Stm.while p e b) t more = refl
stm_starts (Stm.repeat p b e) t more = refl
stm_starts (Stm.for p x e b) t more = refl
stm_starts (Stm.just p e) t more = started_starts p (spell e (sign Sign.Semicolon ∷ more)) ∙ exp_starts e t (sign Sign.Semicolon ∷ more)

-- a statement at the top of a script is read as a statement
top_function : (k : List Item) (ms : List Mark) → at_round ms ≡ true → run (Item.tops ∷ k) (TokenKind.Word Word.Function ∷ kinds_of ms)
    ≡ run (Item.stmt ∷ Item.tops ∷ k) (TokenKind.Word Word.Function ∷ kinds_of ms)
top_function k [] h = absurd cc
top_function k (m ∷ ms) h = rw h refl

pub begins_tops : (k : List Item) (ms : List Mark) → begins_outer ms ≡ false → starts_stmt ms ≡ true → run (Item.tops ∷ k) (kinds_of ms)
    ≡ run (Item.stmt ∷ Item.tops ∷ k) (kinds_of ms)
begins_tops k [] b h = absurd cc
begins_tops k (m ∷ ms) b h = either (is_word Word.Function (kind m)) refl h
  where
    either : (c : Bool) → is_word Word.Function (kind m) ≡ c → cond c (at_round ms) true ≡ true → run (Item.tops ∷ k) (kind m ∷ kinds_of ms)
        ≡ run (Item.stmt ∷ Item.tops ∷ k) (kind m ∷ kinds_of ms)
    either true c r = subst (λ (d : TokenKind). run (Item.tops ∷ k) (d ∷ kinds_of ms) ≡ run (Item.stmt ∷ Item.tops ∷ k) (d ∷ kinds_of ms))
        (sym (is_that_word Word.Function (kind m) c)) (top_function k ms r)
    either false c r = rw c refl

-- parameters are read
pub other_params_claim : (ps : List Param) (k : List Item) (more : List Mark)
    → run (Item.other_params ∷ k) (kinds_of (spell_other_params ps (sign Sign.CloseRound ∷ more))) ≡ run k (kinds_of more)
other_params_claim [] k more = refl
other_params_claim (p ∷ ps) k more = other_params_claim ps k more

pub params_claim : (ps : List Param) (k : List Item) (more : List Mark)
    → run (Item.params ∷ k) (kinds_of (spell_params ps (sign Sign.CloseRound ∷ more))) ≡ run k (kinds_of more)
params_claim [] k more = refl
params_claim (p ∷ ps) k more = other_params_claim ps k more
