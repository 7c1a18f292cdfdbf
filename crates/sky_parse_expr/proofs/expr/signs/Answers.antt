use Rattle.std.proofs.Common.{◌∙◌, ap, length, arith}
use Rattle.sky_base.specs.declared.tree.SignAt.{SignAt}
use Rattle.sky_base.specs.TreeView.{sign_view}
use Rattle.sky_parse_grammar.specs.Grammar.{prefix_sign}
use Rattle.sky_parse_expr.proofs.ReadsLaw.{sign_placed}
use Rattle.sky_parse_expr.proofs.ExpLaw.{signs_spelled}
use Rattle.sky_parse_expr.proofs.Moves.{prefix_goes, prefix_ends}
use Rattle.sky_parse_expr.proofs.expr.signs.Goals as goal

pub loop-op-preserved : goal.loop-op-preserved
loop-op-preserved c =
    let l = c.loop-op in
    let some = c.in-Some.ensures.some in
    let sign = c.in-Some.sign.now in
    let next = c.in-Some.after.now in
    let x : SignAt = record { sign = c.in-Some.op; line = sign.line; col = sign.col } in
    record {
      read = λ k. l.invariant.read k ∙ prefix_goes c.in-Some.op k l.rest.now next sign some.0 some.1;
      spelled = rw c.in-Ok.ensures.items (signs_spelled c.args.ts.now l.rest.now next l.items.items x l.invariant.spelled
          (sign_placed (prefix_sign (sign_view c.in-Some.op)) l.rest.now next sign some.0 some.1));
      less = omega (arith, l.invariant.less, ap length some.0);
    }

pub returns-clause-read : goal.returns-clause-read
returns-clause-read c =
    let none = c.in_default.ensures.none in
    λ k. c.loop-op.invariant.read k ∙ prefix_ends k c.loop-op.rest.now none.0 none.1 none.2
