use Rattle.std.proofs.Common.{◌≡◌, List, ◌∷◌, Option, Some, None, refl, sym, subst, arith}
use Rattle.sky_base.specs.Tree.{Place}
use Rattle.sky_base.specs.TreeView.{at}
use Rattle.sky_text.specs.declared.token.Sign.{Sign}
use Rattle.sky_text.specs.declared.token.Token.{Token}
use Rattle.sky_parse_grammar.specs.declared.parts.Head.{Head}
use Rattle.sky_parse_grammar.specs.Machine.{sign_head}
use Rattle.sky_parse_grammar.specs.Grammar.{sign_at, Fits, Spelled}
use Rattle.sky_parse_grammar.specs.Parts.{spell_head}
use Rattle.sky_parse_expr.proofs.Moves.{no_sign}
use Rattle.sky_parse_expr.proofs.begin.begin_sign.Goals as goal

-- the sign alone stands in front of the parts of a form that begins with it
Begins : Sign → Option Head → Type 0
Begins s None = Unit {0}
Begins s (Some h) = (p : Place) (t : Token) (ts : List Token) → Fits (sign_at s p) t → Spelled (spell_head h p) (t ∷ ts) ts

begins : (s : Sign) → Begins s (sign_head s)
unfolding Begins
begins Sign.OpenRound = λ p t ts fit more f. (fit.0, f)
begins Sign.OpenSquare = λ p t ts fit more f. (fit, f)
begins Sign.OpenCurly = λ p t ts fit more f. (fit, f)
begins s = tt

begins_head : (s : Sign) (h : Head) → Some h ≡ sign_head s → (p : Place) (t : Token) (ts : List Token) → Fits (sign_at s p) t
    → Spelled (spell_head h p) (t ∷ ts) ts
unfolding Begins
begins_head s h e = subst (Begins s) (sym e) (begins s)

pub returns-in-None-clause-read : goal.returns-in-None-clause-read
returns-in-None-clause-read c = λ k. no_sign c.args.sign k c.args.ts.now _ (sym c.in-None.ensures) (omega arith)

pub returns-in-Some-clause-tree : goal.returns-in-Some-clause-tree
returns-in-Some-clause-tree c = λ h t fit. (
  refl,
  begins_head c.args.sign c.in-Some.head c.in-Some.ensures (at c.args.line c.args.col) t c.args.ts.now fit,
)
