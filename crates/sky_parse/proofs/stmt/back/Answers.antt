use Rattle.std.proofs.Common.{◌∷◌}
use Rattle.sky_base.specs.TreeView.{at}
use Rattle.sky_text.specs.declared.token.Sign.{Sign}
use Rattle.sky_parse_grammar.specs.declared.level.Level.{Level}
use Rattle.sky_parse_grammar.specs.Machine.{Item, run, kinds}
use Rattle.sky_parse_expr.proofs.Moves.{exit}
use Rattle.sky_parse.proofs.StmtMoves.{back_else}
use Rattle.sky_parse_expr.proofs.ReadsLaw.{sign_front}
use Rattle.sky_parse.proofs.StmLaw.{read_leave, read_return}
use Rattle.sky_parse.proofs.stmt.back.Goals as goal

pub returns-in_err-value-clause-read : goal.returns-in_err-value-clause-read
returns-in_err-value-clause-read g c = exit c.from_residual.result c.in_err-value.field-0.0 (λ x k. run k (kinds x.1.now))
    (λ k. run (Item.back ∷ k) (kinds c.args.ts.now)) (λ k. run (Item.level Level.Either ∷ Item.sign Sign.Semicolon ∷ k) (kinds c.args.ts.now))
    (λ k. k) c.from_residual.ensures.1 (λ k. back_else k c.args.ts.now c.in_default.ensures.none) c.in_err-value.ensures.read

pub returns-in-Some-clause-tree : goal.returns-in-Some-clause-tree
returns-in-Some-clause-tree g c = λ t fit.
    let some = c.in-Some.ensures.some in
    read_leave (at c.args.line c.args.col) c.args.made.now t fit
    (sign_front Sign.Semicolon c.args.ts.now c.in-Some.rest.now c.in-Some.field-0-0.now some.0 some.1)

pub returns-clause-tree : goal.returns-clause-tree
returns-clause-tree g c = λ t fit. read_return (at c.args.line c.args.col) t fit c.in_ok-value.ensures.tree
