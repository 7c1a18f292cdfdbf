use Rattle.ciel_crew_lanes.specs.Seen.{IsOut}
use Rattle.ciel_steal_pool_tests.proofs.jobs.outputs.Given as goal

abbrev pub invariant-loop-job : goal.invariant-loop-job
invariant-loop-job g l = IsOut l.pool
