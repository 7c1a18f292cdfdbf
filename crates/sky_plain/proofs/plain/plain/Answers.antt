use Rattle.std.proofs.Common.{◌≡◌, [], ◌∷◌, Some, sym, subst}
use Rattle.std.specs.Option.{IfSome}
use Rattle.sky_base.specs.JobView.{job_view}
use Rattle.sky_base.specs.Val.{call, no_pairs, no_vals}
use Rattle.ciel_json.specs.Around.{json_around}
use Rattle.sky_plain.specs.Stand.{Standing}
use Rattle.sky_base_known.specs.Walk.{learn_to}
use Rattle.sky_plain.proofs.Rounds.{main_learned, never_full}
use Rattle.sky_plain.proofs.Steps.{standing_start}
use Rattle.sky_plain.proofs.plain.plain.Goals as goal

pub rounds-requires-clause-standing : goal.rounds-requires-clause-standing
rounds-requires-clause-standing g c =
    let learned = subst (λ o. IfSome o (λ k. learn_to c.new-rows.result (call c.in_ok-fun.fun c.new-caught.result c.new-args.result)
    ≡ Some c.learn.new.self)) c.in-Some.is c.in_ok-learn.ensures.held in
    let rows = main_learned c.new-rows.result c.learn.new.self c.in_ok-fun.fun c.new-caught.result c.new-args.result c.new-rows.ensures
    c.in_ok-fun.ensures c.new-caught.ensures c.new-args.ensures learned in
    subst (λ r. Standing (job_view c.args.job.now) (json_around (g.K.Kit.gives c.args.kit.now)) r c.new-objects.result) (sym rows)
    (subst (Standing (job_view c.args.job.now) (json_around (g.K.Kit.gives c.args.kit.now)) (call [] no_pairs no_vals ∷ []))
    (sym c.new-objects.ensures) (standing_start (job_view c.args.job.now) (json_around (g.K.Kit.gives c.args.kit.now))))

pub unreachable-requires : goal.unreachable-requires
unreachable-requires g c =
    never_full c.new-rows.result (call c.in_ok-fun.fun c.new-caught.result c.new-args.result) c.new-rows.ensures
    (c.in_ok-learn.ensures.full c.in-None.is)
