use Rattle.std.proofs.Common.{◌∷◌, ◌++◌, [], List, ◌∙◌, sym, ap, subst}
use Rattle.sky_base.specs.declared.tree.Step.{Step}
use Rattle.sky_base.specs.TreeView.{at, steps_view}
use Rattle.sky_text.specs.declared.token.Sign.{Sign}
use Rattle.sky_text.specs.declared.token.Token.{Token}
use Rattle.sky_parse_grammar.specs.declared.level.Level.{Level}
use Rattle.sky_parse_grammar.specs.Machine.{Item, tails, run, kinds}
use Rattle.sky_parse_held.specs.Held.{Held}
use Rattle.sky_parse_expr.specs.Reads.{Onto, ReadsSteps}
use Rattle.sky_parse_expr.proofs.Moves.{passed}
use Rattle.sky_parse.proofs.StmtMoves.{indexed_else}
use Rattle.sky_parse_expr.proofs.ReadsLaw.{sign_front, ok_map}
use Rattle.sky_parse_expr.proofs.ExpLaw.{read_index}
use Rattle.sky_parse.proofs.StmLaw.{read_put}
use Rattle.sky_parse.proofs.stmt.indexed.Goals as goal

abbrev StepsV : List Step → Held → Held → List Token → List Token → Type 0
StepsV ys = ReadsSteps (steps_view ys)

pub returns-in-Some-clause-tree : goal.returns-in-Some-clause-tree
returns-in-Some-clause-tree g c = λ h t b n fit bit.
    let some = c.in-Some.ensures.some in
    read_put c.args.name (at c.args.name_line c.args.name_col) (at c.args.line c.args.col) t b n fit bit c.in_ok-at.ensures.tree
    c.in_ok-rest.ensures.spelled (sign_front Sign.Assign c.in_ok-rest.rest.now c.in-Some.rest.now c.in-Some.field-0-0.now some.0 some.1)
    c.in_ok-value.ensures.tree

pub returns-clause-read : goal.returns-clause-read
returns-clause-read g c = passed c.just.result (λ x k. run k (kinds x.1.now))
    (λ k. run (Item.level Level.Either ∷ Item.sign Sign.CloseSquare ∷ Item.indexed ∷ k) (kinds c.args.ts.now))
    (λ k. run (Item.steps ∷ tails Level.Either (Item.sign Sign.Semicolon ∷ k)) (kinds c.in_ok-rest.rest.now))
    (λ k. c.in_ok-at.ensures.read (Item.sign Sign.CloseSquare ∷ Item.indexed ∷ k) ∙ c.in_ok-rest.ensures.read (Item.indexed ∷ k)
    ∙ indexed_else k c.in_ok-rest.rest.now c.in_default.ensures.none) c.just.ensures.read

pub returns-clause-tree : goal.returns-clause-tree
returns-clause-tree g c = ok_map c.just.result (λ x j h t b n fit bit.
    let step = Step.Index c.in_ok-at.at c.args.line c.args.col in
    let made = c.expr.new.made in
    let rest = c.in_ok-rest.rest.now in
    let items = c.in-Ok.ensures.items ∙ ap (λ (xs : List Step). xs ++ step ∷ []) c.new-read.ensures.items in
    j h c.args.made.now t (b ∷ c.args.ts.now) n fit
    (subst (λ (xs : List Step). Onto StepsV xs c.args.made.now made (b ∷ c.args.ts.now) rest) (sym items)
    (λ ys d end r. read_index (at c.args.line c.args.col) b bit c.in_ok-at.ensures.tree c.in_ok-rest.ensures.spelled r))) c.just.ensures.tree
