use Rattle.std.proofs.Common.{length, ap, ◌∙◌, arith, length-set}
use Rattle.ciel_steal_pool_tests.proofs.Free.{some_out, there}
use Rattle.ciel_steal_pool_tests.proofs.jobs.pass_on.Goals as goal

pub put-requires-clause-lane : goal.put-requires-clause-lane
put-requires-clause-lane g c =
    let t = c.take-worker.ensures.taken in
    let many = ap length t.4 ∙ length-set c.args.pool.now c.take-worker.result.0 _ in
    omega (arith, t.1, many)

pub put-requires-clause-none : goal.put-requires-clause-none
put-requires-clause-none g c =
    let t = c.take-worker.ensures.taken in
    there c.args.pool.now c.take-worker.new.self c.take-worker.result.0 _ t.1 t.4

pub returns : goal.returns
returns g c =
    let t = c.take-worker.ensures.taken in
    let many = ap length t.4 ∙ length-set c.args.pool.now c.take-worker.result.0 _ in
    record { out = some_out c.take-worker.new.self c.put.new.self c.take-worker.result.0 _ _ (omega (arith, t.1, many)) c.put.ensures.put }
