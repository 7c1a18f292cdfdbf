use Rattle.std.proofs.Common.{◌≡◌, ◌∙◌, ◌∷◌, refl, subst, List}
use Rattle.sky_base.specs.TreeView.{at}
use Rattle.sky_parse_held.specs.declared.made.Parameter.{Parameter}
use Rattle.sky_parse_held.specs.Params.{params_view}
use Rattle.sky_text.specs.declared.token.Sign.{Sign}
use Rattle.sky_parse_grammar.specs.Machine.{Item, run, kinds}
use Rattle.sky_parse_expr.proofs.FunctionLaw.{inside, read_function}
use Rattle.sky_parse_expr.proofs.Moves.{exit}
use Rattle.sky_parse_expr.proofs.function.function.Goals as goal

pub returns-in-Ok-close-clause-tree : goal.returns-in-Ok-close-clause-tree
returns-in-Ok-close-clause-tree g c = λ t fit.
    let p = at c.args.line c.args.col in
    let ps = c.in_ok-params.params.items in
    let body = c.requires.bodies _ _ _ _ c.in_ok-block.ensures in
    let n = c.in-Ok.ensures.number in
    let held = subst (λ (xs : List Parameter). c.open.new.self ≡ inside p (params_view xs) c.args.made.now) c.deref.ensures.value
    c.in-Ok.ensures.held in
    read_function c.in-Ok.name p (params_view ps) c.in_ok-block.block c.args.made.now c.open.new.self c.body.new.arg2 c.close.new.self t
    c.args.ts.now c.in_ok-rest.rest.now c.in_ok-params.rest.now c.in_ok-block.rest.now c.in-Ok.number c.in-Ok.from n.2 n.0 n.1
    held c.in-Ok-close.ensures fit c.in_ok-rest.ensures.spelled c.in_ok-params.ensures.tree body.1

pub returns-in_err-rest-clause-read : goal.returns-in_err-rest-clause-read
returns-in_err-rest-clause-read g c = exit c.from_residual.result c.in_err-rest.field-0.0 (λ x k. run k (kinds x.1.now))
    (λ k. run (Item.sign Sign.OpenRound ∷ Item.params ∷ Item.block ∷ k) (kinds c.args.ts.now))
    (λ k. run (Item.sign Sign.OpenRound ∷ k) (kinds c.args.ts.now)) (λ k. Item.params ∷ Item.block ∷ k) c.from_residual.ensures.1
    (λ k. refl) c.in_err-rest.ensures.read

pub returns-in_err-params-clause-read : goal.returns-in_err-params-clause-read
returns-in_err-params-clause-read g c = exit c.from_residual-in_err-params.result c.in_err-params.field-0.0 (λ x k. run k (kinds x.1.now))
    (λ k. run (Item.sign Sign.OpenRound ∷ Item.params ∷ Item.block ∷ k) (kinds c.args.ts.now))
    (λ k. run (Item.params ∷ k) (kinds c.in_ok-rest.rest.now)) (λ k. Item.block ∷ k) c.from_residual-in_err-params.ensures.1
    (λ k. c.in_ok-rest.ensures.read (Item.params ∷ Item.block ∷ k)) c.in_err-params.ensures.read

pub returns-in_err-block-clause-read : goal.returns-in_err-block-clause-read
returns-in_err-block-clause-read g c = exit c.from_residual-in_err-block.result c.in_err-block.field-0.0 (λ x k. run k (kinds x.1.now))
    (λ k. run (Item.sign Sign.OpenRound ∷ Item.params ∷ Item.block ∷ k) (kinds c.args.ts.now))
    (λ k. run (Item.block ∷ k) (kinds c.in_ok-params.rest.now)) (λ k. k) c.from_residual-in_err-block.ensures.1
    (λ k. c.in_ok-rest.ensures.read (Item.params ∷ Item.block ∷ k) ∙ c.in_ok-params.ensures.read (Item.block ∷ k))
    (c.requires.bodies _ _ _ _ c.in_err-block.ensures).0

pub returns-in-Ok-close-clause-read : goal.returns-in-Ok-close-clause-read
returns-in-Ok-close-clause-read g c =
    let body = c.requires.bodies _ _ _ _ c.in_ok-block.ensures in
    λ k. c.in_ok-rest.ensures.read (Item.params ∷ Item.block ∷ k) ∙ c.in_ok-params.ensures.read (Item.block ∷ k) ∙ body.0 k
