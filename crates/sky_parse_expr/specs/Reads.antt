-- What the functions of the parser say of what they read: a tree of the text that spells the tokens, the tree that is
-- run in its place, and what is held behind it.
use Rattle.std.specs.Prelude.{◌≡◌, ℕ, ◌+◌, ◌%◌, ◌==◌, ◌≤◌, if◌then◌else◌, List, ◌∷◌, ◌++◌, length, true}
use Rattle.sky_base.specs.Tree as run
use Rattle.sky_base.specs.Tree.{Junction}
use Rattle.sky_parse_grammar.specs.Levels.{junction_level}
use Rattle.sky_text.specs.declared.token.Sign.{Sign}
use Rattle.sky_text.specs.declared.token.Word.{Word}
use Rattle.sky_text.specs.declared.token.TokenKind.{TokenKind}
use Rattle.sky_text.specs.declared.token.Token.{Token}
use Rattle.sky_parse_grammar.specs.declared.parts.Shape.{Shape}
use Rattle.sky_parse_grammar.specs.Source.{Exp, Exps, Stms, Arms, Else, level, exps_count}
use Rattle.sky_parse_grammar.specs.Lifted.{tree, exps_tree, links_tree, ands_tree, steps_tree, stm_tree, stms_tree, arms_tree}
use Rattle.sky_parse_grammar.specs.Lifted.{else_tree, arms_count}
use Rattle.sky_parse_grammar.specs.Grammar.{Mark, sign, word, spell, spell_links, spell_ands, spell_steps, spell_stm, spell_stms, spell_block, spell_test}
use Rattle.sky_parse_grammar.specs.Grammar.{spell_others, spell_value, spell_other_pairs, spell_other_arms, spell_else, IsTree, AreTrees, AreLinks, AreAnds}
use Rattle.sky_parse_grammar.specs.Grammar.{AreSteps, IsStm, AreStms, AreArms, IsElse, paired, valued, Spelled}
use Rattle.sky_parse_grammar.specs.Parts.{Has, spell_parts}
use Rattle.sky_parse_held.specs.Held.{Held, Part, after, both, named_first, exp_part, exps_part, links_part, ands_part, steps_part, stm_part}
use Rattle.sky_parse_held.specs.Held.{stms_part, arms_part, else_part}

-- A tree of one kind was read: what makes it a tree of the grammar, what runs in its place, what it adds and how it is spelled.
pub record Reads {S R : Type 0} (good : S → Type 0) (tree : ℕ → S → R) (part : S → Part) (spell : S → List Mark → List Mark) (r : R)
    (old new : Held) (ts rest : List Token) : Type 0 where
  pub text : S
  pub well : good text
  pub runs : r ≡ tree (length old.funs) text
  pub adds : new ≡ after old (part text)
  pub spelled : Spelled (spell text) ts rest

-- an expression of this level or a tighter one
abbrev pub ReadsExp : ℕ → run.Exp → Held → Held → List Token → List Token → Type 0
ReadsExp l = Reads (λ s. IsTree s × (l ≤ level s)) tree exp_part spell

abbrev pub ReadsLinks : ℕ → run.Links → Held → Held → List Token → List Token → Type 0
ReadsLinks l = Reads (AreLinks l) links_tree links_part spell_links

abbrev pub ReadsAnds : Junction → run.Ands → Held → Held → List Token → List Token → Type 0
ReadsAnds j = Reads (AreAnds (junction_level j)) ands_tree ands_part (spell_ands j)

abbrev pub ReadsSteps : run.Steps → Held → Held → List Token → List Token → Type 0
ReadsSteps = Reads AreSteps steps_tree steps_part spell_steps

-- the parts of a form and the sign that closes them
abbrev pub ReadsParts : Shape → run.Exps → Held → Held → List Token → List Token → Type 0
ReadsParts h = Reads (λ es. AreTrees es × Has h es) exps_tree exps_part (spell_parts h)

-- behind so many parts, those that follow and the sign that closes them
abbrev pub HasMore : Shape → ℕ → Exps → Type 0
HasMore (Shape.Many s) n es = Unit {0}
HasMore (Shape.Fixed m s) n es = n + exps_count es ≡ m
HasMore Shape.Pairs n es = (if n % 2 == 1 then valued es else paired es) ≡ true

abbrev pub spell_more : Shape → ℕ → Exps → List Mark → List Mark
spell_more (Shape.Many s) n es more = spell_others es (sign s ∷ more)
spell_more (Shape.Fixed m s) n es more = spell_others es (sign s ∷ more)
spell_more Shape.Pairs n es more = if n % 2 == 1 then spell_value es (sign Sign.CloseCurly ∷ more) else spell_other_pairs es
    (sign Sign.CloseCurly ∷ more)

abbrev pub ReadsMore : Shape → ℕ → run.Exps → Held → Held → List Token → List Token → Type 0
ReadsMore h n = Reads (λ es. AreTrees es × HasMore h n es) exps_tree exps_part (spell_more h n)

abbrev pub ReadsBlock : run.Stms → Held → Held → List Token → List Token → Type 0
ReadsBlock = Reads AreStms stms_tree stms_part spell_block

-- What was read goes on: whatever was read in front of it, the whole is read with it.
abbrev pub Onward : ℕ → ℕ → run.Exp → run.Exp → Held → Held → List Token → List Token → Type 0
Onward m l first all old new ts rest = (h : Held) (from : List Token) → ReadsExp m first h old from ts → ReadsExp l all h new from rest

-- Items of a list were read: with those that are read behind them they make the list.
abbrev pub Onto : {X : Type 0} → (List X → Held → Held → List Token → List Token → Type 0) → List X → Held → Held → List Token → List Token → Type 0
Onto V xs a b ts rest = (ys : List _) (c : Held) (end : List Token) → V ys b c rest end → V (xs ++ ys) a c ts end
