use Rattle.std.proofs.Common.{refl, rules}
use Rattle.line_flow.specs.Told.{fed_more}
use Rattle.line_flow.specs.declared.flow.Flow.{Flow}
use Rattle.line_flow.proofs.StandsLaw.{stands_later}
use Rattle.line_flow.proofs.flow.Flow.turn.Goals as goal

pub returns-clause-ok : goal.returns-clause-ok
returns-clause-ok c t s later some =
    let f = c.settle_all.new.self in
    let piece = c.args.piece.now in
    let input = c.args.input in
    let next : Flow = record f { last = input; rest = c.in-Ok.rest } in
    let whole = c.settle_all.ensures.all (search rules) t s in
    c.settle.ensures.stands (fed_more t input piece)
    (stands_later f next t input piece refl refl refl refl c.in-Ok.ensures.items refl later some whole)
