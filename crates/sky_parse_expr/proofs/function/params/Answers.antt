use Rattle.std.proofs.Common.{◌∷◌, ◌∙◌, [], length, length-append, ap, arith}
use Rattle.sky_parse_expr.proofs.ParamsLaw.{params_spelled}
use Rattle.sky_text.specs.declared.token.Sign.{Sign}
use Rattle.sky_parse_grammar.specs.Machine.{Item, run, kinds}
use Rattle.sky_parse_grammar.specs.Grammar.{sign}
use Rattle.sky_parse_expr.proofs.Moves.{exit}
use Rattle.sky_parse_expr.proofs.ParamsLaw.{params_empty, params_go, params_first, params_end}
use Rattle.sky_parse_expr.proofs.function.params.Goals as goal

pub loop-after-preserved : goal.loop-after-preserved
loop-after-preserved c =
    let some = c.in-Some-eat.ensures.some in
    record {
      read = λ k. c.loop-after.invariant.read k ∙ params_go k c.loop-after.rest.now c.in-Some-eat.after.now c.in-Some-eat.field-0-0.now some.0
          some.1 ∙ c.in_ok-name-2.ensures.read (Item.other_params ∷ k);
      spelled = rw c.in-Ok-push.ensures.items (params_spelled c.args.ts.now c.loop-after.rest.now c.in-Some-eat.after.now
          c.in_ok-name-2.after.now c.in-Some-eat.field-0-0.now c.loop-after.items.items
          (record { name = c.in_ok-name-2.name; line = c.in_ok-name-2.line; col = c.in_ok-name-2.col }) c.loop-after.invariant.some
          c.loop-after.invariant.spelled some.0 some.1 c.in_ok-name-2.ensures.spelled);
      some = rw c.in-Ok-push.ensures.items (omega (
        arith,
        length-append c.loop-after.items.items
            (record { name = c.in_ok-name-2.name; line = c.in_ok-name-2.line; col = c.in_ok-name-2.col } ∷ []),
      ));
      less = omega (arith, c.loop-after.invariant.less, ap length some.0, c.in_ok-name-2.ensures.less);
    }

pub returns-in_err-name-clause-read : goal.returns-in_err-name-clause-read
returns-in_err-name-clause-read c = exit c.from_residual.result c.in_err-name.field-0.0 (λ x k. run k (kinds x.1.now))
    (λ k. run (Item.params ∷ k) (kinds c.args.ts.now)) (λ k. run (Item.name ∷ k) (kinds c.args.ts.now))
    (λ k. Item.other_params ∷ k) c.from_residual.ensures.1 (λ k. params_first k c.args.ts.now c.in_default.ensures.none) c.in_err-name.ensures.read

pub returns-in_err-rest-clause-read : goal.returns-in_err-rest-clause-read
returns-in_err-rest-clause-read c = exit c.from_residual-in_err-rest.result c.in_err-rest.field-0.0 (λ x k. run k (kinds x.1.now))
    (λ k. run (Item.params ∷ k) (kinds c.args.ts.now)) (λ k. run (Item.sign Sign.CloseRound ∷ k) (kinds c.loop-after.rest.now))
    (λ k. k) c.from_residual-in_err-rest.ensures.1
    (λ k. c.loop-after.invariant.read k ∙ params_end k c.loop-after.rest.now c.in_default-eat.ensures.none) c.in_err-rest.ensures.read

pub returns-in-Some-clause-read : goal.returns-in-Some-clause-read
returns-in-Some-clause-read c =
    let some = c.in-Some.ensures.some in
    λ k. params_empty k c.args.ts.now c.in-Some.rest.now c.in-Some.field-0-0.now some.0 some.1

pub returns-in_err-name-2-clause-read : goal.returns-in_err-name-2-clause-read
returns-in_err-name-2-clause-read c =
    let some = c.in-Some-eat.ensures.some in
    exit c.from_residual-in_err-name-2.result c.in_err-name-2.field-0.0 (λ x k. run k (kinds x.1.now))
    (λ k. run (Item.params ∷ k) (kinds c.args.ts.now)) (λ k. run (Item.name ∷ k) (kinds c.in-Some-eat.after.now))
    (λ k. Item.other_params ∷ k) c.from_residual-in_err-name-2.ensures.1
    (λ k. c.loop-after.invariant.read k ∙ params_go k c.loop-after.rest.now c.in-Some-eat.after.now c.in-Some-eat.field-0-0.now some.0 some.1)
    c.in_err-name-2.ensures.read

pub returns-clause-read : goal.returns-clause-read
returns-clause-read c = λ k. c.loop-after.invariant.read k ∙ params_end k c.loop-after.rest.now c.in_default-eat.ensures.none
    ∙ c.in_ok-rest.ensures.read k

pub returns-clause-tree : goal.returns-clause-tree
returns-clause-tree c = λ more f. c.loop-after.invariant.spelled (sign Sign.CloseRound ∷ more) (c.in_ok-rest.ensures.spelled more f)
