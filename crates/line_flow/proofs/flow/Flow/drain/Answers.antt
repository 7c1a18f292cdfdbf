use Rattle.std.proofs.Common.{◌≡◌, true, refl, rules}
use Rattle.line_flow.specs.declared.flow.Flow.{Flow}
use Rattle.line_flow.proofs.Results.{on_ok}
use Rattle.line_flow.proofs.StandsLaw.{drained_on}
use Rattle.line_flow.proofs.flow.Flow.drain.Goals as goal

pub returns-clause-drained : goal.returns-clause-drained
returns-clause-drained c =
    let f = c.settle.new.self in
    let g : Flow = record f { settled = c.drain.new.self } in
    let all : c.settle.result ≡ true = search rules in
    on_ok c.drain.result (λ v made t s. (drained_on f g t v.items refl (c.settle.ensures.all all refl) made (c.settle.ensures.stands t s)).0)
    c.drain.ensures.ok

pub returns-clause-stands : goal.returns-clause-stands
returns-clause-stands c =
    let f = c.settle.new.self in
    let g : Flow = record f { settled = c.drain.new.self } in
    let all : c.settle.result ≡ true = search rules in
    on_ok c.drain.result (λ v made t s. (drained_on f g t v.items refl (c.settle.ensures.all all refl) made (c.settle.ensures.stands t s)).1)
    c.drain.ensures.ok
