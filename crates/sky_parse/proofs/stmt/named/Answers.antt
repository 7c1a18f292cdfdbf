use Rattle.std.proofs.Common.{refl, ◌∷◌, List, sym, subst}
use Rattle.sky_base.specs.declared.tree.Step.{Step}
use Rattle.sky_base.specs.TreeView.{at, steps_view}
use Rattle.sky_base.specs.StmtView.{stm_view}
use Rattle.sky_text.specs.declared.token.Sign.{Sign}
use Rattle.sky_text.specs.declared.token.Token.{Token}
use Rattle.sky_parse_grammar.specs.declared.level.Level.{Level}
use Rattle.sky_parse_grammar.specs.Grammar.{place}
use Rattle.sky_parse_grammar.specs.Machine.{Item, tails, run, kinds}
use Rattle.sky_parse_grammar.proofs.Tokens.{is_sign}
use Rattle.sky_parse_held.specs.Held.{Held}
use Rattle.sky_parse_expr.specs.Reads.{Onto, ReadsSteps}
use Rattle.sky_parse.specs.Statements.{ReadsStm}
use Rattle.sky_parse_expr.proofs.Moves.{passed}
use Rattle.sky_parse.proofs.StmtMoves.{named_else}
use Rattle.sky_parse_expr.proofs.ReadsLaw.{sign_front, sign_placed, onto_none, ok_map}
use Rattle.sky_parse.proofs.StmLaw.{read_set, read_add}
use Rattle.sky_parse.proofs.stmt.named.Goals as goal

abbrev StepsV : List Step → Held → Held → List Token → List Token → Type 0
StepsV ys = ReadsSteps (steps_view ys)

pub returns-in-Some-clause-tree : goal.returns-in-Some-clause-tree
returns-in-Some-clause-tree g c = λ h t n fit.
    let some = c.in-Some.ensures.some in
    read_set c.args.name (at c.args.line c.args.col) t n fit
    (sign_front Sign.Assign c.args.ts.now c.in-Some.rest.now c.in-Some.field-0-0.now some.0 some.1) c.in_ok-value.ensures.tree

pub returns-in-Some-eat-clause-tree : goal.returns-in-Some-eat-clause-tree
returns-in-Some-eat-clause-tree g c = λ h t n fit.
    let some = c.in-Some-eat.ensures.some in
    let sign = c.in-Some-eat.sign.now in
    read_add c.args.name (at c.args.line c.args.col) (place sign) t n fit
    (sign_placed Sign.AddAssign c.args.ts.now c.in-Some-eat.rest.now sign some.0 some.1) c.in_ok-value-2.ensures.tree

pub returns-in-Some-eat-2-clause-tree : goal.returns-in-Some-eat-2-clause-tree
returns-in-Some-eat-2-clause-tree g c =
    let some = c.in-Some-eat-2.ensures.some in
    let sign = c.in-Some-eat-2.sign.now in
    ok_map c.indexed.result (λ x j h t n fit. subst (λ (us : List Token). ReadsStm (stm_view x.0) h c.indexed.new.made (t ∷ us) x.1.now)
    (sym some.0) (j h t sign n fit (is_sign Sign.OpenSquare sign.kind some.1, refl))) c.indexed.ensures.tree

pub returns-clause-tree : goal.returns-clause-tree
returns-clause-tree g c = ok_map c.just.result (λ x j h t n fit.
    j h c.args.made.now t c.args.ts.now n fit (subst
    (λ (xs : List Step). Onto StepsV xs c.args.made.now c.args.made.now c.args.ts.now c.args.ts.now) (sym c.new.ensures.items)
    (onto_none StepsV c.args.made.now c.args.ts.now))) c.just.ensures.tree

pub returns-clause-read : goal.returns-clause-read
returns-clause-read g c = passed c.just.result (λ x k. run k (kinds x.1.now)) (λ k. run (Item.named ∷ k) (kinds c.args.ts.now))
    (λ k. run (Item.steps ∷ tails Level.Either (Item.sign Sign.Semicolon ∷ k)) (kinds c.args.ts.now))
    (λ k. named_else k c.args.ts.now c.in_default.ensures.none c.in_default-eat.ensures.none c.in_default-eat-2.ensures.none) c.just.ensures.read
