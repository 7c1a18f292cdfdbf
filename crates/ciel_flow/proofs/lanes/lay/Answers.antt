use Rattle.std.proofs.Common.{[], ◌∷◌, ◌++◌, ◌≡◌, ◌<◌, None, Some, ap, arith, length, refl, set, subst, sym, ◌∙◌}
use Rattle.std.specs.Prelude.{IfSome}
use Rattle.sky_base.specs.JobView.{job_view}
use Rattle.ciel_crew_lanes.specs.Seen.{lane_at}
use Rattle.ciel_flow_work.specs.Flowing.{IsLedOf, as_crew}
use Rattle.ciel_flow_work.specs.declared.job.FlowJob.{FlowJob}
use Rattle.ciel_flow_work.specs.declared.job.Perform.{Perform}
use Rattle.ciel_flow.specs.Streaming.{IsBegun, IsFree, Match}
use Rattle.ciel_flow.specs.declared.lanes.Stream.{Stream}
use Rattle.ciel_flow.proofs.LaneSteps.{both_laid, both_match, crew_laid, free_none, free_there, laid_match}
use Rattle.ciel_flow.proofs.lanes.lay.Goals as goal

pub put-requires-clause-takes : goal.put-requires-clause-takes
put-requires-clause-takes g c = record { done = c.requires.takes; flow = c.requires.flow; led = tt }

pub returns-in-None-clause-agree : goal.returns-in-None-clause-agree
returns-in-None-clause-agree g c =
    let ls = c.args.lanes.now in
    let ss = c.args.streams.now.items in
    let p : Perform g.row.K.Denot g.row.N.Denot g.row.G.Denot g.row.R.Denot = record { job = c.args.job; ahead = c.args.ahead; producer = None } in
    subst (λ x. Match g.N.Namer.digest c.args.shop.now x ss) (sym c.put.ensures.put)
    (laid_match g.N.Namer.digest c.args.shop.now ls ss c.args.worker p c.requires.worker c.requires.agree c.requires.none)

pub returns-in-None-clause-laid : goal.returns-in-None-clause-laid
returns-in-None-clause-laid g c =
    let p : Perform g.row.K.Denot g.row.N.Denot g.row.G.Denot g.row.R.Denot = record { job = c.args.job; ahead = c.args.ahead; producer = None } in
    ap as_crew c.put.ensures.put ∙ crew_laid c.args.lanes.now c.args.worker p c.requires.worker

pub put-requires-in-Some-clause-takes : goal.put-requires-in-Some-clause-takes
put-requires-in-Some-clause-takes g c =
    let b = c.in-Some.begun in
    let begun = subst (λ o. IfSome o (IsBegun g.N.Namer.digest c.args.shop.now c.args.job.order)) c.in-Some.is c.requires.begun in
    record {
      done = c.requires.takes;
      flow = c.requires.flow;
      led = subst (λ s. IsLedOf (job_view s.job).inputs c.args.job.order b.index b.producer) (sym c.requires.own) begun.led;
    }

pub put-requires-in-Some-2-clause-lane : goal.put-requires-in-Some-2-clause-lane
put-requires-in-Some-2-clause-lane g c =
    let ls = c.args.lanes.now in
    let ss = c.args.streams.now.items in
    let b = c.in-Some.begun in
    let p : Perform g.row.K.Denot g.row.N.Denot g.row.G.Denot g.row.R.Denot =
    record { job = c.args.job; ahead = c.args.ahead; producer = Some (b.producer, b.index) } in
    let free = subst (λ o. IfSome o (λ x. IsFree ls c.args.worker x.lane)) c.in-Some.is c.requires.free in
    subst (λ x. b.lane < length x) (sym c.put-in-Some.ensures.put)
    (free_there g.N.Namer.digest c.args.shop.now ls ss c.args.worker p c.requires.worker c.requires.agree c.requires.none b free)

pub put-requires-in-Some-2-clause-none : goal.put-requires-in-Some-2-clause-none
put-requires-in-Some-2-clause-none g c =
    let ls = c.args.lanes.now in
    let ss = c.args.streams.now.items in
    let b = c.in-Some.begun in
    let p : Perform g.row.K.Denot g.row.N.Denot g.row.G.Denot g.row.R.Denot =
    record { job = c.args.job; ahead = c.args.ahead; producer = Some (b.producer, b.index) } in
    let free = subst (λ o. IfSome o (λ x. IsFree ls c.args.worker x.lane)) c.in-Some.is c.requires.free in
    subst (λ x. (lane_at x b.lane).out ≡ None) (sym c.put-in-Some.ensures.put)
    (free_none g.N.Namer.digest c.args.shop.now ls ss c.args.worker p c.requires.worker c.requires.agree c.requires.none b free)

pub put-requires-in-Some-2-clause-takes : goal.put-requires-in-Some-2-clause-takes
put-requires-in-Some-2-clause-takes g c =
    (subst (λ o. IfSome o (IsBegun g.N.Namer.digest c.args.shop.now c.args.job.order)) c.in-Some.is c.requires.begun).fresh

pub index_mut-requires : goal.index_mut-requires
index_mut-requires g c =
    let free = subst (λ o. IfSome o (λ x. IsFree c.args.lanes.now c.args.worker x.lane)) c.in-Some.is c.requires.free in
    omega (arith, free.there, c.requires.agree.many)

pub returns-in-Some-clause-agree : goal.returns-in-Some-clause-agree
returns-in-Some-clause-agree g c =
    let ls = c.args.lanes.now in
    let ss = c.args.streams.now.items in
    let b = c.in-Some.begun in
    let p : Perform g.row.K.Denot g.row.N.Denot g.row.G.Denot g.row.R.Denot =
    record { job = c.args.job; ahead = c.args.ahead; producer = Some (b.producer, b.index) } in
    let begun = subst (λ o. IfSome o (IsBegun g.N.Namer.digest c.args.shop.now c.args.job.order)) c.in-Some.is c.requires.begun in
    let free = subst (λ o. IfSome o (λ x. IsFree ls c.args.worker x.lane)) c.in-Some.is c.requires.free in
    let laid_then = c.put-in-Some-2.ensures.put ∙ ap (λ x. set x b.lane record {
      put = (lane_at x b.lane).put ++ FlowJob.Follow b.follow ∷ [];
      out = Some (FlowJob.Follow b.follow);
    }) c.put-in-Some.ensures.put in
    subst (λ x. Match g.N.Namer.digest c.args.shop.now x (set ss b.lane (Some (Stream.Follows b.consumer)))) (sym laid_then)
    (both_match g.N.Namer.digest c.args.shop.now ls ss c.args.worker p c.requires.worker c.requires.agree c.requires.none b free c.args.job.order
    (Some (Stream.Follows b.consumer)) begun refl)

pub returns-in-Some-clause-laid : goal.returns-in-Some-clause-laid
returns-in-Some-clause-laid g c =
    let ls = c.args.lanes.now in
    let ss = c.args.streams.now.items in
    let b = c.in-Some.begun in
    let p : Perform g.row.K.Denot g.row.N.Denot g.row.G.Denot g.row.R.Denot =
    record { job = c.args.job; ahead = c.args.ahead; producer = Some (b.producer, b.index) } in
    let free = subst (λ o. IfSome o (λ x. IsFree ls c.args.worker x.lane)) c.in-Some.is c.requires.free in
    let laid_then = c.put-in-Some-2.ensures.put ∙ ap (λ x. set x b.lane record {
      put = (lane_at x b.lane).put ++ FlowJob.Follow b.follow ∷ [];
      out = Some (FlowJob.Follow b.follow);
    }) c.put-in-Some.ensures.put in
    ap as_crew laid_then ∙ both_laid g.N.Namer.digest c.args.shop.now ls ss c.args.worker p c.requires.worker c.requires.agree c.requires.none b free
