use Rattle.std.proofs.Common.{◌≡◌, arith, sym, ◌∙◌}
use Rattle.std.proofs.lemmas.Bool.{eqb-true, eq-eqb, true≢false}
use Rattle.line_flow.proofs.StandsLaw.{stands_took, whole_took}
use Rattle.line_flow.proofs.flow.Flow.settle_all.Goals as goal

pub returns-clause-some : goal.returns-clause-some
returns-clause-some c unlike t s =
    let f = c.args.self.now in
    let apart : (c.take.result ≡ c.len-end.result → ⊥) = λ e. true≢false (sym (eq-eqb c.take.result c.len-end.result e) ∙ unlike) in
    stands_took f c.take.new.self t c.take.result c.take.ensures.took (c.take.ensures.closed (omega (arith, c.take.ensures.bound, apart))) s

pub returns-clause-all : goal.returns-clause-all
returns-clause-all c same t s =
    let f = c.args.self.now in
    whole_took f c.take.new.self t c.take.result c.take.ensures.took
    (omega (arith, eqb-true c.take.result c.len-end.result same, c.len-end.ensures)) s
