use Rattle.std.proofs.Common.{arith}
use Rattle.ciel_steal_pool_tests.proofs.Free.{some_out}
use Rattle.ciel_steal_pool_tests.proofs.jobs.fill.Goals as goal

pub returns : goal.returns
returns g c = record { out = some_out c.fill_others.new.pool c.put.new.self 0 _ _ (omega (arith, c.fill_others.ensures.many)) c.put.ensures.put }
