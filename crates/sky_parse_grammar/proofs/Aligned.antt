-- Where the same tokens are spelled by one tree before two lists of marks, those that follow it are spelled by both.
use Rattle.std.proofs.Common.{◌≡◌, List, [], ◌∷◌, sym, ◌∙◌}
use Rattle.sky_base.specs.Tree.{Place, Form, Junction, SignAt}
use Rattle.sky_text.specs.declared.token.TokenKind.{TokenKind}
use Rattle.sky_text.specs.declared.token.Token.{Token}
use Rattle.sky_parse_grammar.specs.Grammar.{Mark, Fun, started, spell, spell_signs, spell_exps, spell_others, spell_pairs, spell_value, spell_other_pairs}
use Rattle.sky_parse_grammar.specs.Grammar.{spell_links, spell_ands, spell_steps, spell_test, spell_stm, spell_stms, spell_arms, spell_other_arms}
use Rattle.sky_parse_grammar.specs.Grammar.{spell_else, spell_block, spell_other_params, spell_params, spell_fun, Fits, Follows}
use Rattle.sky_parse_grammar.specs.Source.{Param}
use Rattle.sky_parse_grammar.specs.Machine.{kind}
use Rattle.sky_parse_grammar.proofs.Exact.{fits_kind}
use Rattle.sky_parse_grammar.specs.Source.{Exp, Exps, Links, Ands, Steps, Stm, Stms, Arms, Else}

-- tokens that both spell
pub record Both (a b : List Mark) : Type 0 where
  pub rest : List Token
  pub left : Follows a rest
  pub right : Follows b rest

pub swap : {a b : List Mark} → Both a b → Both b a
swap h = record { rest = h.rest; left = h.right; right = h.left }

abbrev pub Heads : Mark → Mark → List Mark → List Mark → Type 0
Heads m n a b = (t : Token) × Fits m t × Fits n t × Both a b

heads_of : (m n : Mark) (a b : List Mark) (rest : List Token) → Follows (m ∷ a) rest → Follows (n ∷ b) rest → Heads m n a b
heads_of m n a b [] f g = absurd f
heads_of m n a b (t ∷ ts) f g = (t, f.0, g.0, record { rest = ts; left = f.1; right = g.1 })

-- the first token
pub heads : {m n : Mark} {a b : List Mark} → Both (m ∷ a) (n ∷ b) → Heads m n a b
heads {m = m} {n = n} {a = a} {b = b} h = heads_of m n a b h.rest h.left h.right

pub peel : {m n : Mark} {a b : List Mark} → Both (m ∷ a) (n ∷ b) → Both a b
peel h = (heads h).3

pub same_kind : {m n : Mark} {a b : List Mark} → Both (m ∷ a) (n ∷ b) → kind m ≡ kind n
same_kind {m = m} {n = n} h = let x = heads h in sym (fits_kind m x.0 x.1) ∙ fits_kind n x.0 x.2

pub same_place : {j k : TokenKind} {p q : Place} {a b : List Mark} → Both (Mark.placed j p ∷ a) (Mark.placed k q ∷ b) → p ≡ q
same_place h = let x = heads h in x.1.1 ∙ sym (x.2.1)

no_end_of : (m : Mark) (a : List Mark) (rest : List Token) → Follows [] rest → Follows (m ∷ a) rest → ⊥
no_end_of m a [] f g = g
no_end_of m a (t ∷ ts) f g = f

pub no_end : {m : Mark} {a : List Mark} → Both [] (m ∷ a) → ⊥
no_end {m = m} {a = a} h = no_end_of m a h.rest h.left h.right

unstart : (p : Place) (m : Mark) (a : List Mark) (ts : List Token) → Follows (Mark.also p m ∷ a) ts → Follows (m ∷ a) ts
unstart p m a [] f = absurd f
unstart p m a (t ∷ ts) f = (f.0.1, f.1)

pub unstarted : (p : Place) (a : List Mark) (ts : List Token) → Follows (started p a) ts → Follows a ts
unstarted p [] ts f = f
unstarted p (m ∷ a) ts f = unstart p m a ts f

pub started_peel : (p : Place) {a b : List Mark} → Both (started p a) (started p b) → Both a b
started_peel p {a = a} {b = b} h = record { rest = h.rest; left = unstarted p a h.rest h.left; right = unstarted p b h.rest h.right }

pub signs_peel : (x : List SignAt) {a b : List Mark} → Both (spell_signs x a) (spell_signs x b) → Both a b
signs_peel [] h = h
signs_peel (s ∷ ss) h = signs_peel ss (peel h)

pub other_params_peel : (x : List Param) {a b : List Mark} → Both (spell_other_params x a) (spell_other_params x b) → Both a b
other_params_peel [] h = h
other_params_peel (x ∷ xs) h = other_params_peel xs (peel (peel h))

pub params_peel : (x : List Param) {a b : List Mark} → Both (spell_params x a) (spell_params x b) → Both a b
params_peel [] h = h
params_peel (x ∷ xs) h = other_params_peel xs (peel h)

mutual
  pub exp_peel : (x : Exp) {a b : List Mark} → Both (spell x a) (spell x b) → Both a b
  exp_peel (Exp.literal v p) h = peel h
  exp_peel (Exp.name x p) h = peel h
  exp_peel (Exp.func p xs b) h = peel (stms_peel b (peel (peel (params_peel xs (peel (peel h))))))
  exp_peel (Exp.parens e) h = peel (exp_peel e (peel h))
  exp_peel (Exp.parts Form.list p es) h = peel (exps_peel es (peel h))
  exp_peel (Exp.parts Form.dict p es) h = peel (pairs_peel es (peel h))
  exp_peel (Exp.parts Form.spawn p es) h = peel (exps_peel es (peel (peel h)))
  exp_peel (Exp.parts Form.spawn_exec p es) h = peel (exps_peel es (peel (peel h)))
  exp_peel (Exp.parts Form.exec p es) h = peel (exps_peel es (peel (peel h)))
  exp_peel (Exp.parts Form.ref p es) h = peel (exps_peel es (peel (peel h)))
  exp_peel (Exp.parts Form.len p es) h = peel (exps_peel es (peel (peel h)))
  exp_peel (Exp.parts Form.keys p es) h = peel (exps_peel es (peel (peel h)))
  exp_peel (Exp.parts Form.has p es) h = peel (exps_peel es (peel (peel h)))
  exp_peel (Exp.parts Form.range p es) h = peel (exps_peel es (peel (peel h)))
  exp_peel (Exp.chain e ls) h = links_peel ls (exp_peel e h)
  exp_peel (Exp.logic j e ls) h = ands_peel j ls (exp_peel e h)
  exp_peel (Exp.prefix ss e) h = exp_peel e (signs_peel ss h)
  exp_peel (Exp.postfix e ss) h = steps_peel ss (exp_peel e h)

  pub exps_peel : (x : Exps) {a b : List Mark} → Both (spell_exps x a) (spell_exps x b) → Both a b
  exps_peel Exps.no_exps h = h
  exps_peel (Exps.exp e es) h = others_peel es (exp_peel e h)

  pub others_peel : (x : Exps) {a b : List Mark} → Both (spell_others x a) (spell_others x b) → Both a b
  others_peel Exps.no_exps h = h
  others_peel (Exps.exp e es) h = others_peel es (exp_peel e (peel h))

  pub pairs_peel : (x : Exps) {a b : List Mark} → Both (spell_pairs x a) (spell_pairs x b) → Both a b
  pairs_peel Exps.no_exps h = h
  pairs_peel (Exps.exp k es) h = value_peel es (exp_peel k h)

  pub value_peel : (x : Exps) {a b : List Mark} → Both (spell_value x a) (spell_value x b) → Both a b
  value_peel Exps.no_exps h = h
  value_peel (Exps.exp v es) h = other_pairs_peel es (exp_peel v (peel h))

  pub other_pairs_peel : (x : Exps) {a b : List Mark} → Both (spell_other_pairs x a) (spell_other_pairs x b) → Both a b
  other_pairs_peel Exps.no_exps h = h
  other_pairs_peel (Exps.exp k es) h = value_peel es (exp_peel k (peel h))

  pub links_peel : (x : Links) {a b : List Mark} → Both (spell_links x a) (spell_links x b) → Both a b
  links_peel Links.no_links h = h
  links_peel (Links.link o p e ls) h = links_peel ls (exp_peel e (peel h))

  pub ands_peel : (j : Junction) (x : Ands) {a b : List Mark} → Both (spell_ands j x a) (spell_ands j x b) → Both a b
  ands_peel j Ands.no_ands h = h
  ands_peel j (Ands.and p e ls) h = ands_peel j ls (exp_peel e (peel h))

  pub steps_peel : (x : Steps) {a b : List Mark} → Both (spell_steps x a) (spell_steps x b) → Both a b
  steps_peel Steps.no_steps h = h
  steps_peel (Steps.index e p ss) h = steps_peel ss (peel (exp_peel e (peel h)))
  steps_peel (Steps.call es p ss) h = steps_peel ss (peel (exps_peel es (peel h)))

  pub stm_peel : (x : Stm) {a b : List Mark} → Both (spell_stm x a) (spell_stm x b) → Both a b
  stm_peel (Stm.set x p e) h = peel (exp_peel e (peel (peel h)))
  stm_peel (Stm.add x q p e) h = peel (exp_peel e (peel (peel h)))
  stm_peel (Stm.put x q p i e) h = peel (exp_peel e (peel (peel (exp_peel i (peel (peel h))))))
  stm_peel (Stm.return p e) h = peel (exp_peel e (peel h))
  stm_peel (Stm.leave p) h = peel (peel h)
  stm_peel (Stm.cases p arms els) h = else_peel els (arms_peel arms (started_peel p h))
  stm_peel (Stm.while p e b) h = peel (stms_peel b (peel (peel (exp_peel e (peel (peel h))))))
  stm_peel (Stm.repeat p b e) h = peel (peel (exp_peel e (peel (peel (peel (stms_peel b (peel (peel h))))))))
  stm_peel (Stm.for p x e b) h = peel (stms_peel b (peel (peel (exp_peel e (peel (peel (peel (peel h))))))))
  stm_peel (Stm.just p e) h = peel (exp_peel e (started_peel p h))

  pub stms_peel : (x : Stms) {a b : List Mark} → Both (spell_stms x a) (spell_stms x b) → Both a b
  stms_peel Stms.no_stms h = h
  stms_peel (Stms.stm s ss) h = stms_peel ss (stm_peel s h)

  pub arms_peel : (x : Arms) {a b : List Mark} → Both (spell_arms x a) (spell_arms x b) → Both a b
  arms_peel Arms.no_arms h = h
  arms_peel (Arms.arm p e b arms) h = other_arms_peel arms (peel (stms_peel b (peel (peel (exp_peel e (peel (peel h)))))))

  pub other_arms_peel : (x : Arms) {a b : List Mark} → Both (spell_other_arms x a) (spell_other_arms x b) → Both a b
  other_arms_peel Arms.no_arms h = h
  other_arms_peel (Arms.arm p e b arms) h = other_arms_peel arms (peel (stms_peel b (peel (peel (exp_peel e (peel (peel (peel h))))))))

  pub else_peel : (x : Else) {a b : List Mark} → Both (spell_else x a) (spell_else x b) → Both a b
  else_peel Else.no_else h = h
  else_peel (Else.otherwise b) h = peel (stms_peel b (peel (peel h)))

pub test_peel : (x : Exp) {a b : List Mark} → Both (spell_test x a) (spell_test x b) → Both a b
test_peel e h = peel (exp_peel e (peel h))

pub block_peel : (x : Stms) {a b : List Mark} → Both (spell_block x a) (spell_block x b) → Both a b
block_peel b h = peel (stms_peel b (peel h))

pub fun_peel : (x : Fun) {a b : List Mark} → Both (spell_fun x a) (spell_fun x b) → Both a b
fun_peel f h = block_peel f.body (peel (params_peel f.params (peel (peel (peel h)))))
