-- The marks of trees are at least as many as the parts that they have.
use Rattle.std.proofs.Common.{◌≡◌, ◌≤◌, ◌+◌, ℕ, List, [], ◌∷◌, length, refl, arith}
use Rattle.sky_base.specs.Tree.{Place, SignAt, Form, Junction}
use Rattle.sky_text.specs.declared.token.Sign.{Sign}
use Rattle.sky_text.specs.declared.token.Word.{Word}
use Rattle.sky_parse_grammar.specs.Levels.{junction_level}
use Rattle.sky_parse_grammar.specs.Grammar.{Mark, sign, word, IsTree, AreTrees, AreLinks, AreAnds, AreSteps, IsStm, AreStms, AreArms, IsElse, spell}
use Rattle.sky_parse_grammar.specs.Grammar.{spell_signs, spell_exps, spell_others, spell_pairs, spell_value, spell_other_pairs, spell_links, spell_ands}
use Rattle.sky_parse_grammar.specs.Grammar.{spell_steps, spell_stm, spell_stms, spell_arms, spell_other_arms, spell_else, spell_params, spell_other_params}
use Rattle.sky_parse_grammar.specs.Grammar.{started}
use Rattle.sky_parse_grammar.specs.Lifted.{count, exps_count, stm_count, stms_count, exps_tree, links_tree, ands_tree, steps_tree, stms_tree, arms_tree}
use Rattle.sky_parse_grammar.specs.Source.{Param, Exp, Exps, Links, Ands, Steps, Stm, Stms, Arms, Else, links_level}
use Rattle.sky_machine.specs.Width.{exps_width, links_width, ands_width, steps_width, stms_width, arms_width}

pub started_length : (p : Place) (ms : List Mark) → length (started p ms) ≡ length ms
started_length p [] = refl
started_length p (m ∷ ms) = refl

pub signs_long : (ss : List SignAt) (more : List Mark) → length ss + length more ≡ length (spell_signs ss more)
signs_long [] more = omega arith
signs_long (s ∷ ss) more = omega (arith, signs_long ss more)

other_params_long : (xs : List Param) (more : List Mark) → length more ≤ length (spell_other_params xs more)
other_params_long [] more = omega arith
other_params_long (x ∷ xs) more = omega (arith, other_params_long xs more)

pub params_long : (xs : List Param) (more : List Mark) → length more ≤ length (spell_params xs more)
params_long [] more = omega arith
params_long (x ∷ xs) more = omega (arith, other_params_long xs more)

mutual
  -- a tree has at least one mark
  pub exp_long : (e : Exp) (more : List Mark) → IsTree e → 1 + length more ≤ length (spell e more)
  exp_long (Exp.literal v p) more h = omega arith
  exp_long (Exp.name x p) more h = omega arith
  exp_long (Exp.func p xs b) more h =
      omega (
        arith,
        params_long xs (sign Sign.CloseRound ∷ sign Sign.OpenCurly ∷ spell_stms b (sign Sign.CloseCurly ∷ more)),
        stms_long b 0 (sign Sign.CloseCurly ∷ more) h,
      )
  exp_long (Exp.parens e) more h = omega (arith, exp_long e (sign Sign.CloseRound ∷ more) h)
  exp_long (Exp.parts Form.list p es) more h = omega (arith, exps_long es 0 (sign Sign.CloseSquare ∷ more) h.0)
  exp_long (Exp.parts Form.dict p es) more h = omega (arith, pairs_long es 0 (sign Sign.CloseCurly ∷ more) h.0)
  exp_long (Exp.parts Form.spawn p es) more h = omega (arith, exps_long es 0 (sign Sign.CloseRound ∷ more) h.0)
  exp_long (Exp.parts Form.spawn_exec p es) more h = omega (arith, exps_long es 0 (sign Sign.CloseRound ∷ more) h.0)
  exp_long (Exp.parts Form.exec p es) more h = omega (arith, exps_long es 0 (sign Sign.CloseRound ∷ more) h.0)
  exp_long (Exp.parts Form.ref p es) more h = omega (arith, exps_long es 0 (sign Sign.CloseRound ∷ more) h.0)
  exp_long (Exp.parts Form.len p es) more h = omega (arith, exps_long es 0 (sign Sign.CloseRound ∷ more) h.0)
  exp_long (Exp.parts Form.keys p es) more h = omega (arith, exps_long es 0 (sign Sign.CloseRound ∷ more) h.0)
  exp_long (Exp.parts Form.has p es) more h = omega (arith, exps_long es 0 (sign Sign.CloseRound ∷ more) h.0)
  exp_long (Exp.parts Form.range p es) more h = omega (arith, exps_long es 0 (sign Sign.CloseRound ∷ more) h.0)
  exp_long (Exp.chain e ls) more h = omega (arith, exp_long e (spell_links ls more) h.0, links_long (links_level ls) ls 0 more h.2)
  exp_long (Exp.logic j e ls) more h = omega (arith, exp_long e (spell_ands j ls more) h.0, ands_long (junction_level j) j ls 0 more h.2)
  exp_long (Exp.prefix ss e) more h = omega (arith, signs_long ss (spell e more), exp_long e more h.0)
  exp_long (Exp.postfix e ss) more h = omega (arith, exp_long e (spell_steps ss more) h.0, steps_long ss 0 more h.2)

  pub exps_long : (es : Exps) (n : ℕ) (more : List Mark) → AreTrees es → exps_width (exps_tree n es) + length more ≤ length (spell_exps es more)
  exps_long Exps.no_exps n more h = omega arith
  exps_long (Exps.exp e es) n more h = omega (arith, exp_long e (spell_others es more) h.0, others_long es (n + count e) more h.1)

  pub others_long : (es : Exps) (n : ℕ) (more : List Mark) → AreTrees es → exps_width (exps_tree n es) + length more ≤ length (spell_others es more)
  others_long Exps.no_exps n more h = omega arith
  others_long (Exps.exp e es) n more h = omega (arith, exp_long e (spell_others es more) h.0, others_long es (n + count e) more h.1)

  pub pairs_long : (es : Exps) (n : ℕ) (more : List Mark) → AreTrees es → exps_width (exps_tree n es) + length more ≤ length (spell_pairs es more)
  pairs_long Exps.no_exps n more h = omega arith
  pairs_long (Exps.exp e es) n more h = omega (arith, exp_long e (spell_value es more) h.0, value_long es (n + count e) more h.1)

  pub value_long : (es : Exps) (n : ℕ) (more : List Mark) → AreTrees es → exps_width (exps_tree n es) + length more ≤ length (spell_value es more)
  value_long Exps.no_exps n more h = omega arith
  value_long (Exps.exp e es) n more h = omega (arith, exp_long e (spell_other_pairs es more) h.0, other_pairs_long es (n + count e) more h.1)

  pub other_pairs_long : (es : Exps) (n : ℕ) (more : List Mark) → AreTrees es
      → exps_width (exps_tree n es) + length more ≤ length (spell_other_pairs es more)
  other_pairs_long Exps.no_exps n more h = omega arith
  other_pairs_long (Exps.exp e es) n more h = omega (arith, exp_long e (spell_value es more) h.0, value_long es (n + count e) more h.1)

  pub links_long : (l : ℕ) (ls : Links) (n : ℕ) (more : List Mark) → AreLinks l ls
      → links_width (links_tree n ls) + length more ≤ length (spell_links ls more)
  links_long l Links.no_links n more h = omega arith
  links_long l (Links.link o p e ls) n more h = omega (arith, exp_long e (spell_links ls more) h.1, links_long l ls (n + count e) more h.3)

  pub ands_long : (l : ℕ) (j : Junction) (ls : Ands) (n : ℕ) (more : List Mark) → AreAnds l ls
      → ands_width (ands_tree n ls) + length more ≤ length (spell_ands j ls more)
  ands_long l j Ands.no_ands n more h = omega arith
  ands_long l j (Ands.and p e ls) n more h = omega (arith, exp_long e (spell_ands j ls more) h.0, ands_long l j ls (n + count e) more h.2)

  pub steps_long : (ss : Steps) (n : ℕ) (more : List Mark) → AreSteps ss → steps_width (steps_tree n ss) + length more ≤ length (spell_steps ss more)
  steps_long Steps.no_steps n more h = omega arith
  steps_long (Steps.index e p ss) n more h = omega
      (arith, exp_long e (sign Sign.CloseSquare ∷ spell_steps ss more) h.0, steps_long ss (n + count e) more h.1)
  steps_long (Steps.call es p ss) n more h = omega
      (arith, exps_long es n (sign Sign.CloseRound ∷ spell_steps ss more) h.0, steps_long ss (n + exps_count es) more h.1)

  -- and so does a statement
  pub stm_long : (s : Stm) (more : List Mark) → IsStm s → 1 + length more ≤ length (spell_stm s more)
  stm_long (Stm.set x p e) more h = omega (arith, exp_long e (sign Sign.Semicolon ∷ more) h)
  stm_long (Stm.add x q p e) more h = omega (arith, exp_long e (sign Sign.Semicolon ∷ more) h)
  stm_long (Stm.put x q p i e) more h = omega (
    arith,
    exp_long i (sign Sign.CloseSquare ∷ sign Sign.Assign ∷ spell e (sign Sign.Semicolon ∷ more)) h.0,
    exp_long e (sign Sign.Semicolon ∷ more) h.1,
  )
  stm_long (Stm.return p e) more h = omega (arith, exp_long e (sign Sign.Semicolon ∷ more) h)
  stm_long (Stm.leave p) more h = omega arith
  stm_long (Stm.cases p Arms.no_arms els) more h = absurd cc
  stm_long (Stm.cases p (Arms.arm q e b arms) els) more h =
      omega (
        arith,
        started_length p (spell_arms (Arms.arm q e b arms) (spell_else els more)),
        arms_long (Arms.arm q e b arms) 0 (spell_else els more) h.0,
        else_long els more h.2,
      )
  stm_long (Stm.while p e b) more h = omega (
    arith,
    exp_long e (sign Sign.CloseRound ∷ sign Sign.OpenCurly ∷ spell_stms b (sign Sign.CloseCurly ∷ more)) h.0,
    stms_long b 0 (sign Sign.CloseCurly ∷ more) h.1,
  )
  stm_long (Stm.repeat p b e) more h = omega (
    arith,
    stms_long b 0 (sign Sign.CloseCurly ∷ word Word.While ∷ sign Sign.OpenRound ∷ spell e (sign Sign.CloseRound ∷ sign Sign.Semicolon ∷ more))
        h.0,
    exp_long e (sign Sign.CloseRound ∷ sign Sign.Semicolon ∷ more) h.1,
  )
  stm_long (Stm.for p x e b) more h = omega (
    arith,
    exp_long e (sign Sign.CloseRound ∷ sign Sign.OpenCurly ∷ spell_stms b (sign Sign.CloseCurly ∷ more)) h.0,
    stms_long b 0 (sign Sign.CloseCurly ∷ more) h.1,
  )
  stm_long (Stm.just p e) more h = omega (arith, started_length p (spell e (sign Sign.Semicolon ∷ more)), exp_long e (sign Sign.Semicolon ∷ more) h)

  pub stms_long : (ss : Stms) (n : ℕ) (more : List Mark) → AreStms ss → stms_width (stms_tree n ss) + length more ≤ length (spell_stms ss more)
  stms_long Stms.no_stms n more h = omega arith
  stms_long (Stms.stm s ss) n more h = omega (arith, stm_long s (spell_stms ss more) h.0, stms_long ss (n + stm_count s) more h.1)

  pub arms_long : (arms : Arms) (n : ℕ) (more : List Mark) → AreArms arms
      → arms_width (arms_tree n arms) + length more ≤ length (spell_arms arms more)
  arms_long Arms.no_arms n more h = omega arith
  arms_long (Arms.arm p e b arms) n more h = omega (
    arith,
    exp_long e (sign Sign.CloseRound ∷ sign Sign.OpenCurly ∷ spell_stms b (sign Sign.CloseCurly ∷ spell_other_arms arms more)) h.0,
    stms_long b 0 (sign Sign.CloseCurly ∷ spell_other_arms arms more) h.1,
    other_arms_long arms (n + count e + stms_count b) more h.2,
  )

  pub other_arms_long : (arms : Arms) (n : ℕ) (more : List Mark) → AreArms arms
      → arms_width (arms_tree n arms) + length more ≤ length (spell_other_arms arms more)
  other_arms_long Arms.no_arms n more h = omega arith
  other_arms_long (Arms.arm p e b arms) n more h =
      omega (
        arith,
        exp_long e (sign Sign.CloseRound ∷ sign Sign.OpenCurly ∷ spell_stms b (sign Sign.CloseCurly ∷ spell_other_arms arms more))
            h.0,
        stms_long b 0 (sign Sign.CloseCurly ∷ spell_other_arms arms more) h.1,
        other_arms_long arms (n + count e + stms_count b) more h.2,
      )

  pub else_long : (els : Else) (more : List Mark) → IsElse els → length more ≤ length (spell_else els more)
  else_long Else.no_else more h = omega arith
  else_long (Else.otherwise b) more h = omega (arith, stms_long b 0 (sign Sign.CloseCurly ∷ more) h)
