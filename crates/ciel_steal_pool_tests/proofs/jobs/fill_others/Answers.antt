use Rattle.std.proofs.Common.{length, ap, ◌∙◌, arith, length-set}
use Rattle.ciel_steal_pool_tests.proofs.Free.{free_at, free_still}
use Rattle.ciel_steal_pool_tests.proofs.jobs.fill_others.Goals as goal

pub loop-worker-init : goal.loop-worker-init
loop-worker-init g c =
    let free = free_at c.args.pool.now c.requires.free in
    (c.requires.many, free 0, λ k le. free k, omega arith)

pub put-requires-clause-none : goal.put-requires-clause-none
put-requires-clause-none g c = c.loop-worker.invariant.2 c.loop-worker.worker (omega arith)

pub loop-worker-preserved : goal.loop-worker-preserved
loop-worker-preserved g c =
    let i = c.loop-worker.invariant in
    let w = c.loop-worker.worker in
    let still = free_still c.loop-worker.pool c.put.new.self w in (
      ap length c.put.ensures.put ∙ (length-set c.loop-worker.pool w _ ∙ i.0),
      still 0 _ c.put.ensures.put (λ e. omega (arith, i.3, e)) i.1,
      (λ k le. still k _ c.put.ensures.put (λ e. omega (arith, le, e)) (i.2 k (omega (arith, le)))),
      omega (arith, i.3),
    )
