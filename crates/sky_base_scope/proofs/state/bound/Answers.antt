use Rattle.std.proofs.Common.{◌≡◌, ◌+◌, suc, ◌∷◌, drop, sym, ap, ◌∙◌, add-one, drop-cons, arith}
use Rattle.sky_base.specs.Eval.{bind, left}
use Rattle.sky_base.specs.View.{view}
use Rattle.sky_base_scope.proofs.Vars.{left_past, bind_past, drop_past, kept_at, kept_put, bind_here}
use Rattle.sky_base_scope.proofs.state.bound.Goals as goal

pub loop-i-preserved : goal.loop-i-preserved
loop-i-preserved c =
    let xs = c.args.params.now in
    let i = c.loop-i.i in
    let x = c.index-params-i.result in
    let v = view c.in-Some.arg.now in
    let cut : drop i xs ≡ x ∷ drop (i + 1) xs =
    rw (add-one i) (drop-cons xs i x (omega arith) ∙ ap (λ y. y ∷ drop (suc i) xs) (sym c.index-params-i.is)) in
    rw (c.in_ok-insert.ensures.ok, c.in_ok-copy.ensures, c.in_ok-share.ensures) (record {
      kept = kept_put x v c.loop-i.vars (kept_at c.args.args.now i v c.in-Some.ensures c.requires.args) c.loop-i.invariant.kept;
      bound = c.loop-i.invariant.bound ∙ ap (λ ys. bind ys (left i c.args.args.now) c.loop-i.vars) cut
          ∙ bind_here x (drop (i + 1) xs) c.args.args.now i v c.loop-i.vars c.in-Some.ensures;
    })

pub returns-in_default-clause-value : goal.returns-in_default-clause-value
returns-in_default-clause-value c =
    sym (c.loop-i.invariant.bound ∙ ap (λ us. bind (drop c.loop-i.i c.args.params.now) us c.loop-i.vars)
    (left_past c.args.args.now c.loop-i.i c.in_default.ensures) ∙ bind_past (drop c.loop-i.i c.args.params.now) c.loop-i.vars)

pub returns-clause-value : goal.returns-clause-value
returns-clause-value c =
    sym (c.loop-i.invariant.bound ∙ ap (λ xs. bind xs (left c.loop-i.i c.args.args.now) c.loop-i.vars)
    (drop_past c.args.params.now c.loop-i.i (omega arith)))
