use Rattle.std.proofs.Common.{◌≡◌, ℕ, List, false, take, sym, ap, ◌∙◌}
use Rattle.line_kit.specs.Lines.{is_open}
use Rattle.line_flow.proofs.StandsLaw.{stands_took, taken_closed}
use Rattle.line_flow.proofs.flow.Flow.settle.Goals as goal

pub returns-clause-stands : goal.returns-clause-stands
returns-clause-stands c t s =
    let f = c.args.self.now in
    let end = c.settled_end-end.result in
    let shut : is_open (take end f.rest.items) ≡ false = ap (λ (ys : List ℕ). is_open (take end ys)) (sym c.as_slice.ensures.value)
    ∙ c.settled_end-end.ensures.closed in
    stands_took f c.take.new.self t c.take.result c.take.ensures.took
    (taken_closed c.take.result end f.rest.items c.take.ensures.bound c.take.ensures.closed shut) s
