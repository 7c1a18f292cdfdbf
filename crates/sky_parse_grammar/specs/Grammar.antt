-- The grammar of the language, as a function from trees to tokens. Each form has one clause of
-- `spell`; which trees are trees of the grammar is said below it.
use Rattle.std.specs.Prelude.{◌≡◌, ℕ, ◌≤◌, ◌<◌, Bool, true, false, List, [], ◌∷◌}
use Rattle.sky_base.specs.Op.{Order}
use Rattle.sky_base.specs.Tree.{Place, Lit, Oper, Junction, SignAt, Form}
use Rattle.sky_base.specs.Tree as tree
use Rattle.sky_parse_grammar.specs.Levels.{oper_level, junction_level}
use Rattle.sky_text.specs.declared.token.Sign.{Sign}
use Rattle.sky_text.specs.declared.token.Word.{Word}
use Rattle.sky_text.specs.declared.token.TokenKind.{TokenKind}
use Rattle.sky_text.specs.declared.token.Token.{Token}
use Rattle.sky_parse_grammar.specs.Source.{Param, Exp, Exps, Links, Ands, Steps, Stm, Stms, Arms, Else, links_level, level, exps_count, links_enough}
use Rattle.sky_parse_grammar.specs.Source.{some_ands, some_signs, some_steps}

-- A token of a tree. Where the tree has the token's place, that stands beside it.
pub data Mark : Type 0 where
  placed : TokenKind → Place → Mark
  plain : TokenKind → Mark
  also : Place → Mark → Mark

abbrev pub sign : Sign → Mark
sign s = Mark.plain (TokenKind.Sign s)

abbrev pub sign_at : Sign → Place → Mark
sign_at s p = Mark.placed (TokenKind.Sign s) p

abbrev pub word : Word → Mark
word w = Mark.plain (TokenKind.Word w)

abbrev pub word_at : Word → Place → Mark
word_at w p = Mark.placed (TokenKind.Word w) p

abbrev pub name_at : List ℕ → Place → Mark
name_at x p = Mark.placed (TokenKind.Name x) p

abbrev pub lit_kind : Lit → TokenKind
lit_kind Lit.null = TokenKind.Word Word.Null
lit_kind (Lit.truth true) = TokenKind.Word Word.True
lit_kind (Lit.truth false) = TokenKind.Word Word.False
lit_kind (Lit.num z) = TokenKind.Number z
lit_kind (Lit.text t) = TokenKind.Text t

abbrev pub order_sign : Order → Sign
order_sign Order.eq = Sign.Equal
order_sign Order.ne = Sign.NotEqual
order_sign Order.lt = Sign.Less
order_sign Order.le = Sign.LessEqual
order_sign Order.gt = Sign.Greater
order_sign Order.ge = Sign.GreaterEqual

abbrev pub oper_sign : Oper → Sign
oper_sign Oper.plus = Sign.Plus
oper_sign Oper.minus = Sign.Minus
oper_sign Oper.times = Sign.Star
oper_sign Oper.over = Sign.Slash
oper_sign Oper.rest = Sign.Percent
oper_sign (Oper.compare o) = order_sign o

abbrev pub junction_sign : Junction → Sign
junction_sign Junction.both = Sign.And
junction_sign Junction.either = Sign.Or

abbrev pub prefix_sign : tree.Sign → Sign
prefix_sign tree.Sign.not = Sign.Not
prefix_sign tree.Sign.minus = Sign.Minus
prefix_sign tree.Sign.star = Sign.Star

abbrev pub spell_signs : List SignAt → List Mark → List Mark
spell_signs [] more = more
spell_signs (s ∷ ss) more = sign_at (prefix_sign s.sign) s.place ∷ spell_signs ss more

-- the first of the tokens has this place
abbrev pub started : Place → List Mark → List Mark
started p [] = []
started p (m ∷ ms) = Mark.also p m ∷ ms

abbrev pub spell_other_params : List Param → List Mark → List Mark
spell_other_params [] more = more
spell_other_params (x ∷ xs) more = sign Sign.Comma ∷ name_at x.name x.place ∷ spell_other_params xs more

abbrev pub spell_params : List Param → List Mark → List Mark
spell_params [] more = more
spell_params (x ∷ xs) more = name_at x.name x.place ∷ spell_other_params xs more

-- the tokens of a tree, and then those that follow it
abbrev mutual
  pub spell : Exp → List Mark → List Mark
  spell (Exp.literal v p) more = Mark.placed (lit_kind v) p ∷ more
  spell (Exp.name x p) more = name_at x p ∷ more
  spell (Exp.func p xs b) more = word_at Word.Function p ∷ sign Sign.OpenRound
      ∷ spell_params xs (sign Sign.CloseRound ∷ sign Sign.OpenCurly ∷ spell_stms b (sign Sign.CloseCurly ∷ more))
  spell (Exp.parens e) more = sign Sign.OpenRound ∷ spell e (sign Sign.CloseRound ∷ more)
  spell (Exp.parts Form.list p es) more = sign_at Sign.OpenSquare p ∷ spell_exps es (sign Sign.CloseSquare ∷ more)
  spell (Exp.parts Form.dict p es) more = sign_at Sign.OpenCurly p ∷ spell_pairs es (sign Sign.CloseCurly ∷ more)
  spell (Exp.parts Form.spawn p es) more = word_at Word.Spawn p ∷ sign Sign.OpenRound ∷ spell_exps es (sign Sign.CloseRound ∷ more)
  spell (Exp.parts Form.spawn_exec p es) more = word_at Word.SpawnExec p ∷ sign Sign.OpenRound ∷ spell_exps es (sign Sign.CloseRound ∷ more)
  spell (Exp.parts Form.exec p es) more = word_at Word.Exec p ∷ sign Sign.OpenRound ∷ spell_exps es (sign Sign.CloseRound ∷ more)
  spell (Exp.parts Form.ref p es) more = word_at Word.Ref p ∷ sign Sign.OpenRound ∷ spell_exps es (sign Sign.CloseRound ∷ more)
  spell (Exp.parts Form.len p es) more = word_at Word.Len p ∷ sign Sign.OpenRound ∷ spell_exps es (sign Sign.CloseRound ∷ more)
  spell (Exp.parts Form.keys p es) more = word_at Word.Keys p ∷ sign Sign.OpenRound ∷ spell_exps es (sign Sign.CloseRound ∷ more)
  spell (Exp.parts Form.has p es) more = word_at Word.Has p ∷ sign Sign.OpenRound ∷ spell_exps es (sign Sign.CloseRound ∷ more)
  spell (Exp.parts Form.range p es) more = word_at Word.Range p ∷ sign Sign.OpenRound ∷ spell_exps es (sign Sign.CloseRound ∷ more)
  spell (Exp.chain e ls) more = spell e (spell_links ls more)
  spell (Exp.logic j e ls) more = spell e (spell_ands j ls more)
  spell (Exp.prefix ss e) more = spell_signs ss (spell e more)
  spell (Exp.postfix e ss) more = spell e (spell_steps ss more)

  -- with commas between them
  pub spell_exps : Exps → List Mark → List Mark
  spell_exps Exps.no_exps more = more
  spell_exps (Exps.exp e es) more = spell e (spell_others es more)

  -- each behind a comma
  pub spell_others : Exps → List Mark → List Mark
  spell_others Exps.no_exps more = more
  spell_others (Exps.exp e es) more = sign Sign.Comma ∷ spell e (spell_others es more)

  -- keys and values in turn
  pub spell_pairs : Exps → List Mark → List Mark
  spell_pairs Exps.no_exps more = more
  spell_pairs (Exps.exp k es) more = spell k (spell_value es more)

  -- the value of a key, and the pairs behind it
  pub spell_value : Exps → List Mark → List Mark
  spell_value Exps.no_exps more = more
  spell_value (Exps.exp v es) more = sign Sign.Colon ∷ spell v (spell_other_pairs es more)

  pub spell_other_pairs : Exps → List Mark → List Mark
  spell_other_pairs Exps.no_exps more = more
  spell_other_pairs (Exps.exp k es) more = sign Sign.Comma ∷ spell k (spell_value es more)

  pub spell_links : Links → List Mark → List Mark
  spell_links Links.no_links more = more
  spell_links (Links.link o p e ls) more = sign_at (oper_sign o) p ∷ spell e (spell_links ls more)

  pub spell_ands : Junction → Ands → List Mark → List Mark
  spell_ands j Ands.no_ands more = more
  spell_ands j (Ands.and p e ls) more = sign_at (junction_sign j) p ∷ spell e (spell_ands j ls more)

  pub spell_steps : Steps → List Mark → List Mark
  spell_steps Steps.no_steps more = more
  spell_steps (Steps.index e p ss) more = sign_at Sign.OpenSquare p ∷ spell e (sign Sign.CloseSquare ∷ spell_steps ss more)
  spell_steps (Steps.call es p ss) more = sign_at Sign.OpenRound p ∷ spell_exps es (sign Sign.CloseRound ∷ spell_steps ss more)

  pub spell_stm : Stm → List Mark → List Mark
  spell_stm (Stm.set x p e) more = name_at x p ∷ sign Sign.Assign ∷ spell e (sign Sign.Semicolon ∷ more)
  spell_stm (Stm.add x q p e) more = name_at x q ∷ sign_at Sign.AddAssign p ∷ spell e (sign Sign.Semicolon ∷ more)
  spell_stm (Stm.put x q p i e) more = name_at x q ∷ sign_at Sign.OpenSquare p
      ∷ spell i (sign Sign.CloseSquare ∷ sign Sign.Assign ∷ spell e (sign Sign.Semicolon ∷ more))
  spell_stm (Stm.return p e) more = word_at Word.Return p ∷ spell e (sign Sign.Semicolon ∷ more)
  spell_stm (Stm.leave p) more = word_at Word.Return p ∷ sign Sign.Semicolon ∷ more
  spell_stm (Stm.cases p arms els) more = started p (spell_arms arms (spell_else els more))
  spell_stm (Stm.while p e b) more = word_at Word.While p ∷ sign Sign.OpenRound
      ∷ spell e (sign Sign.CloseRound ∷ sign Sign.OpenCurly ∷ spell_stms b (sign Sign.CloseCurly ∷ more))
  spell_stm (Stm.repeat p b e) more = word_at Word.Do p ∷ sign Sign.OpenCurly
      ∷ spell_stms b (sign Sign.CloseCurly ∷ word Word.While ∷ sign Sign.OpenRound ∷ spell e (sign Sign.CloseRound ∷ sign Sign.Semicolon ∷ more))
  spell_stm (Stm.for p x e b) more = word_at Word.For p ∷ sign Sign.OpenRound ∷ Mark.plain (TokenKind.Name x) ∷ word Word.In
      ∷ spell e (sign Sign.CloseRound ∷ sign Sign.OpenCurly ∷ spell_stms b (sign Sign.CloseCurly ∷ more))
  spell_stm (Stm.just p e) more = started p (spell e (sign Sign.Semicolon ∷ more))

  pub spell_stms : Stms → List Mark → List Mark
  spell_stms Stms.no_stms more = more
  spell_stms (Stms.stm s ss) more = spell_stm s (spell_stms ss more)

  -- the arms of a choice
  pub spell_arms : Arms → List Mark → List Mark
  spell_arms Arms.no_arms more = more
  spell_arms (Arms.arm p e b arms) more = word_at Word.If p ∷ sign Sign.OpenRound
      ∷ spell e (sign Sign.CloseRound ∷ sign Sign.OpenCurly ∷ spell_stms b (sign Sign.CloseCurly ∷ spell_other_arms arms more))

  -- each behind an `else`
  pub spell_other_arms : Arms → List Mark → List Mark
  spell_other_arms Arms.no_arms more = more
  spell_other_arms (Arms.arm p e b arms) more = word Word.Else ∷ word_at Word.If p ∷ sign Sign.OpenRound
      ∷ spell e (sign Sign.CloseRound ∷ sign Sign.OpenCurly ∷ spell_stms b (sign Sign.CloseCurly ∷ spell_other_arms arms more))

  pub spell_else : Else → List Mark → List Mark
  spell_else Else.no_else more = more
  spell_else (Else.otherwise b) more = word Word.Else ∷ sign Sign.OpenCurly ∷ spell_stms b (sign Sign.CloseCurly ∷ more)

-- a test in parentheses
abbrev pub spell_test : Exp → List Mark → List Mark
spell_test e more = sign Sign.OpenRound ∷ spell e (sign Sign.CloseRound ∷ more)

abbrev pub spell_block : Stms → List Mark → List Mark
spell_block b more = sign Sign.OpenCurly ∷ spell_stms b (sign Sign.CloseCurly ∷ more)

-- a function of the text, with the place of its name
pub record Fun : Type 0 where
  pub name : List ℕ
  pub place : Place
  pub params : List Param
  pub body : Stms

abbrev pub spell_fun : Fun → List Mark → List Mark
spell_fun f more = word Word.Function ∷ name_at f.name f.place ∷ sign Sign.OpenRound
    ∷ spell_params f.params (sign Sign.CloseRound ∷ spell_block f.body more)

-- whether each key has a value
abbrev mutual
  pub paired : Exps → Bool
  paired Exps.no_exps = true
  paired (Exps.exp k es) = valued es

  pub valued : Exps → Bool
  valued Exps.no_exps = false
  valued (Exps.exp v es) = paired es

-- a form has as many parts as it takes
abbrev pub Fills : Form → Exps → Type 0
Fills Form.list es = Unit {0}
Fills Form.dict es = paired es ≡ true
Fills Form.spawn es = exps_count es ≡ 2
Fills Form.spawn_exec es = exps_count es ≡ 3
Fills Form.exec es = exps_count es ≡ 3
Fills Form.ref es = exps_count es ≡ 1
Fills Form.len es = exps_count es ≡ 1
Fills Form.keys es = exps_count es ≡ 1
Fills Form.has es = exps_count es ≡ 2
Fills Form.range es = exps_count es ≡ 2

abbrev pub some_arms : Arms → Bool
some_arms Arms.no_arms = false
some_arms (Arms.arm p e b arms) = true

-- A tree of the grammar. Each operand stands at a level above that of its operator, so that a sum under a
-- product is in parentheses; a level with one operand and no operator makes no node.
abbrev mutual
  pub IsTree : Exp → Type 0
  IsTree (Exp.literal v p) = Unit {0}
  IsTree (Exp.name x p) = Unit {0}
  IsTree (Exp.func p xs b) = AreStms b
  IsTree (Exp.parens e) = IsTree e
  IsTree (Exp.parts o p es) = AreTrees es × Fills o es
  IsTree (Exp.chain e ls) = IsTree e × (links_level ls < level e) × AreLinks (links_level ls) ls × (links_enough ls ≡ true)
  IsTree (Exp.logic j e ls) = IsTree e × (junction_level j < level e) × AreAnds (junction_level j) ls × (some_ands ls ≡ true)
  IsTree (Exp.prefix ss e) = IsTree e × (6 ≤ level e) × (some_signs ss ≡ true)
  IsTree (Exp.postfix e ss) = IsTree e × (7 ≤ level e) × AreSteps ss × (some_steps ss ≡ true)

  pub AreTrees : Exps → Type 0
  AreTrees Exps.no_exps = Unit {0}
  AreTrees (Exps.exp e es) = IsTree e × AreTrees es

  -- operators of one level
  pub AreLinks : ℕ → Links → Type 0
  AreLinks l Links.no_links = Unit {0}
  AreLinks l (Links.link o p e ls) = (oper_level o ≡ l) × IsTree e × (l < level e) × AreLinks l ls

  pub AreAnds : ℕ → Ands → Type 0
  AreAnds l Ands.no_ands = Unit {0}
  AreAnds l (Ands.and p e ls) = IsTree e × (l < level e) × AreAnds l ls

  pub AreSteps : Steps → Type 0
  AreSteps Steps.no_steps = Unit {0}
  AreSteps (Steps.index e p ss) = IsTree e × AreSteps ss
  AreSteps (Steps.call es p ss) = AreTrees es × AreSteps ss

  pub IsStm : Stm → Type 0
  IsStm (Stm.set x p e) = IsTree e
  IsStm (Stm.add x q p e) = IsTree e
  IsStm (Stm.put x q p i e) = IsTree i × IsTree e
  IsStm (Stm.return p e) = IsTree e
  IsStm (Stm.leave p) = Unit {0}
  IsStm (Stm.cases p arms els) = AreArms arms × (some_arms arms ≡ true) × IsElse els
  IsStm (Stm.while p e b) = IsTree e × AreStms b
  IsStm (Stm.repeat p b e) = AreStms b × IsTree e
  IsStm (Stm.for p x e b) = IsTree e × AreStms b
  IsStm (Stm.just p e) = IsTree e

  pub AreStms : Stms → Type 0
  AreStms Stms.no_stms = Unit {0}
  AreStms (Stms.stm s ss) = IsStm s × AreStms ss

  pub AreArms : Arms → Type 0
  AreArms Arms.no_arms = Unit {0}
  AreArms (Arms.arm p e b arms) = IsTree e × AreStms b × AreArms arms

  pub IsElse : Else → Type 0
  IsElse Else.no_else = Unit {0}
  IsElse (Else.otherwise b) = AreStms b

-- The tokens are these marks.
abbrev pub place : Token → Place
place t = record { line = t.line; col = t.col }

abbrev pub Fits : Mark → Token → Type 0
Fits (Mark.placed k p) t = (t.kind ≡ k) × (p ≡ place t)
Fits (Mark.plain k) t = t.kind ≡ k
Fits (Mark.also p m) t = (p ≡ place t) × Fits m t

abbrev pub Follows : List Mark → List Token → Type 0
Follows [] [] = Unit {0}
Follows [] (t ∷ ts) = ⊥
Follows (m ∷ ms) [] = ⊥
Follows (m ∷ ms) (t ∷ ts) = Fits m t × Follows ms ts

-- The tokens, up to those that are left, are spelled so.
abbrev pub Spelled : (List Mark → List Mark) → List Token → List Token → Type 0
Spelled spelling ts rest = (more : List Mark) → Follows more rest → Follows (spelling more) ts
