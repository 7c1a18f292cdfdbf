use Rattle.std.proofs.Common.{sym, arith, ◌∙◌, ◌∷◌}
use Rattle.sky_base.specs.TreeView.{at, lit_view}
use Rattle.sky_text.specs.declared.token.Sign.{Sign}
use Rattle.sky_text.specs.declared.token.TokenKind.{TokenKind}
use Rattle.sky_parse_grammar.specs.Machine.{Item, run, kinds}
use Rattle.sky_parse_grammar.specs.Parts.{head_shape}
use Rattle.sky_parse_expr.specs.Runs.{behind}
use Rattle.sky_parse_expr.proofs.Moves.{exit, leaf_word, function_word, head_word, no_word}
use Rattle.sky_parse_expr.proofs.ExpLaw.{read_literal}
use Rattle.sky_parse_expr.proofs.begin.begin_word.Goals as goal

pub returns-in_default-word_head-clause-read : goal.returns-in_default-word_head-clause-read
returns-in_default-word_head-clause-read c =
    λ k. no_word c.args.word k c.args.ts.now _ c.in_default.ensures.none c.in_default-word.not-Function
    (sym c.in_default-word_head.ensures.exact) (omega arith)

pub returns-in-Some-clause-tree : goal.returns-in-Some-clause-tree
returns-in-Some-clause-tree c = λ h t fit. read_literal (lit_view c.in-Some.value) (at c.args.line c.args.col) h (t ∷ c.args.ts.now)
    c.args.ts.now (λ more f. ((fit.0 ∙ sym c.in-Some.ensures.some.1, fit.1), f))

pub returns-in-Some-clause-read : goal.returns-in-Some-clause-read
returns-in-Some-clause-read c = λ k. leaf_word c.args.word k c.args.ts.now c.in-Some.ensures.some.0

pub returns-in-Function-clause-read : goal.returns-in-Function-clause-read
returns-in-Function-clause-read c = λ k. function_word c.args.word k c.args.ts.now c.in-Function.is

pub returns-in_err-rest-clause-read : goal.returns-in_err-rest-clause-read
returns-in_err-rest-clause-read c =
    let head = c.in-Some-word_head.head in
    exit c.from_residual.result c.in_err-rest.field-0.0 (λ x k. run (behind x.0 k) (kinds x.1.now))
    (λ k. run (Item.primary ∷ k) (TokenKind.Word c.args.word ∷ kinds c.args.ts.now))
    (λ k. run (Item.sign Sign.OpenRound ∷ k) (kinds c.args.ts.now)) (λ k. Item.parts (head_shape head) ∷ k) c.from_residual.ensures.1
    (λ k. head_word c.args.word head k c.args.ts.now c.in_default.ensures.none (sym c.in-Some-word_head.ensures.exact)) c.in_err-rest.ensures.read

pub returns-clause-read : goal.returns-clause-read
returns-clause-read c =
    let head = c.in-Some-word_head.head in
    λ k. head_word c.args.word head k c.args.ts.now c.in_default.ensures.none (sym c.in-Some-word_head.ensures.exact)
    ∙ c.in_ok-rest.ensures.read (Item.parts (head_shape head) ∷ k)
