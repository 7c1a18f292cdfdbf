use Rattle.std.proofs.Common.{◌≡◌, ◌++◌, refl, rules}
use Rattle.line_flow.specs.Told.{fed_more}
use Rattle.line_flow.specs.declared.flow.Flow.{Flow}
use Rattle.line_flow.proofs.StandsLaw.{stands_longer}
use Rattle.line_flow.proofs.flow.Flow.go_on.Goals as goal

pub returns-clause-ok : goal.returns-clause-ok
returns-clause-ok c t s some =
    let f = c.args.self.now in
    let piece = c.args.piece.now in
    let longer : Flow = record f { rest = c.extend_from_slice.new.self } in
    let put : c.extend_from_slice.new.self.items ≡ f.rest.items ++ piece = search rules in
    c.settle.ensures.stands (fed_more t t.last piece) (stands_longer f longer t piece refl put some s)
