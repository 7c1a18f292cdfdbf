use Rattle.std.proofs.Common.{◌∙◌, ap, sym, length, arith}
use Rattle.sky_text.specs.declared.token.TokenKind.{TokenKind}
use Rattle.sky_parse_expr.proofs.Moves.{name_some, name_none}
use Rattle.sky_parse_expr.proofs.ReadsLaw.{name_front, name_placed}
use Rattle.sky_parse_expr.proofs.look.want_name.Goals as goal

pub returns-in_default-kind-clause-read : goal.returns-in_default-kind-clause-read
returns-in_default-kind-clause-read c = λ k. name_none k c.args.ts.now c.in-Some.rest.now c.in-Some.first.now c.in-Some.ensures.cases.0
    (λ x e. c.in_default-kind.not-Name x e)

pub returns-in-Ok-clause-read : goal.returns-in-Ok-clause-read
returns-in-Ok-clause-read c = λ k. name_some c.in-Name.name k c.args.ts.now c.in-Some.rest.now c.in-Some.first.now c.in-Some.ensures.cases.0
    c.in-Name.is

pub returns-in-Ok-clause-plain : goal.returns-in-Ok-clause-plain
returns-in-Ok-clause-plain c = name_front c.in-Ok.name c.args.ts.now c.in-Some.rest.now c.in-Some.first.now c.in-Some.ensures.cases.0
    (c.in-Name.is ∙ ap TokenKind.Name (sym c.in-Ok.ensures))

pub returns-in-Ok-clause-spelled : goal.returns-in-Ok-clause-spelled
returns-in-Ok-clause-spelled c = name_placed c.in-Ok.name c.args.ts.now c.in-Some.rest.now c.in-Some.first.now c.in-Some.ensures.cases.0
    (c.in-Name.is ∙ ap TokenKind.Name (sym c.in-Ok.ensures))

pub returns-in-Ok-clause-less : goal.returns-in-Ok-clause-less
returns-in-Ok-clause-less c = omega (arith, ap length c.in-Some.ensures.cases.0)
