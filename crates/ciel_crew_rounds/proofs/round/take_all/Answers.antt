use Rattle.std.proofs.Common.{◌≡◌, ◌<◌, None, arith, length, subst, sym}
use Rattle.ciel_crew_rounds.specs.Seats.{Goes, away_of, sent_of}
use Rattle.ciel_crew_rounds.proofs.SeatSteps.{can_set, each_goes, out_there, seat_here, set_below, set_each}
use Rattle.ciel_crew_rounds.proofs.round.take_all.Goals as goal

pub take_one-requires-clause-out : goal.take_one-requires-clause-out
take_one-requires-clause-out g c =
    let ss = c.loop-worker.seats.items in
    let w = c.loop-worker.worker in
    let i = c.loop-worker.invariant in
    let lt : w < length ss = omega (arith, c.loop-worker-test.true, c.len-worker-end.ensures, i.1.0, c.args.seats.now.ok.0) in
    out_there c.loop-worker.lanes ss w c.index_mut.result.now i.0.outs (seat_here ss w c.index_mut.result.now lt c.index_mut.ensures.value)

pub loop-worker-preserved : goal.loop-worker-preserved
loop-worker-preserved g c =
    let ss = c.loop-worker.seats.items in
    let w = c.loop-worker.worker in
    let i = c.loop-worker.invariant in
    let lt : w < length ss = omega (arith, c.loop-worker-test.true, c.len-worker-end.ensures, i.1.0, c.args.seats.now.ok.0) in
    let here = seat_here ss w c.index_mut.result.now lt c.index_mut.ensures.value in
    let seat = c.take_one.new.seat in
    let goes = subst (λ s. Goes g.K.Kit.gives g.N.Namer.digest g.G.Gate.entered s seat) (sym here) c.take_one.ensures.goes in (
      can_set g.K.Kit.gives g.N.Namer.digest c.loop-worker.lanes c.take_one.new.lanes ss w seat None i.0 lt c.take_one.ensures.none
          (sym c.take_one.ensures.home) c.take_one.ensures.outs,
      each_goes g.K.Kit.gives g.N.Namer.digest g.G.Gate.entered c.args.seats.now.items ss w seat i.1 lt goes,
      λ k. set_each (λ j s. sent_of s ≡ None) ss w seat lt c.take_one.ensures.none k (λ n. i.2 k),
      set_below (λ s. away_of s ≡ None) ss w seat lt c.take_one.ensures.home i.3,
    )
