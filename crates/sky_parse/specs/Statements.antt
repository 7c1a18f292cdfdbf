-- What the functions of the parser say of the statements that they read.
use Rattle.std.specs.Prelude.{ℕ, ◌+◌, List, ◌∷◌}
use Rattle.sky_base.specs.Tree as run
use Rattle.sky_text.specs.declared.token.Sign.{Sign}
use Rattle.sky_text.specs.declared.token.Word.{Word}
use Rattle.sky_text.specs.declared.token.TokenKind.{TokenKind}
use Rattle.sky_text.specs.declared.token.Token.{Token}
use Rattle.sky_parse_grammar.specs.Source.{Exp, Stms, Arms, Else}
use Rattle.sky_parse_grammar.specs.Lifted.{tree, stm_tree, stms_tree, arms_tree, else_tree, arms_count, count}
use Rattle.sky_parse_grammar.specs.Grammar.{Mark, sign, word, spell, spell_stm, spell_stms, spell_block, spell_test, spell_other_arms, spell_else, IsTree}
use Rattle.sky_parse_grammar.specs.Grammar.{IsStm, AreStms, AreArms, IsElse}
use Rattle.sky_parse_held.specs.Held.{Held, both, named_first, exp_part, stm_part, stms_part, arms_part, else_part}
use Rattle.sky_parse_expr.specs.Reads.{Reads}

-- an expression and the semicolon behind it
abbrev pub ReadsEnded : run.Exp → Held → Held → List Token → List Token → Type 0
ReadsEnded = Reads IsTree tree exp_part (λ s more. spell s (sign Sign.Semicolon ∷ more))

-- a test in parentheses
abbrev pub ReadsTest : run.Exp → Held → Held → List Token → List Token → Type 0
ReadsTest = Reads IsTree tree exp_part spell_test

abbrev pub ReadsStm : run.Stm → Held → Held → List Token → List Token → Type 0
ReadsStm = Reads IsStm stm_tree stm_part spell_stm

abbrev pub ReadsStms : run.Stms → Held → Held → List Token → List Token → Type 0
ReadsStms = Reads AreStms stms_tree stms_part spell_stms

-- what stands in the parentheses of a `for`: the name, and the list behind it
abbrev pub ReadsEach : List ℕ → run.Exp → Held → Held → List Token → List Token → Type 0
ReadsEach x e old new = Reads IsTree tree (λ s. named_first x (exp_part s))
    (λ s more. sign Sign.OpenRound ∷ Mark.plain (TokenKind.Name x) ∷ word Word.In ∷ spell s (sign Sign.CloseRound ∷ more)) e old new

-- a test and a block behind it
pub record Arm : Type 0 where
  pub test : Exp
  pub body : Stms

pub record ArmRun : Type 0 where
  pub test : run.Exp
  pub body : run.Stms

abbrev pub arm_tree : ℕ → Arm → ArmRun
arm_tree n x = record { test = tree n x.test; body = stms_tree (n + count x.test) x.body }

abbrev pub ReadsArm : run.Exp → run.Stms → Held → Held → List Token → List Token → Type 0
ReadsArm e b = Reads (λ (x : Arm). IsTree x.test × AreStms x.body) arm_tree (λ x. both (exp_part x.test) (stms_part x.body))
    (λ x more. spell_test x.test (spell_block x.body more)) (record { test = e; body = b })

-- the arms behind the first and the last block of a choice
pub record Rest : Type 0 where
  pub arms : Arms
  pub last : Else

pub record RestRun : Type 0 where
  pub arms : run.Arms
  pub last : run.Else

abbrev pub rest_tree : ℕ → Rest → RestRun
rest_tree n x = record { arms = arms_tree n x.arms; last = else_tree (n + arms_count x.arms) x.last }

abbrev pub ReadsRest : RestRun → Held → Held → List Token → List Token → Type 0
ReadsRest = Reads (λ (x : Rest). AreArms x.arms × IsElse x.last) rest_tree (λ x. both (arms_part x.arms) (else_part x.last))
    (λ x more. spell_other_arms x.arms (spell_else x.last more))
