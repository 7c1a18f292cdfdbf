use Rattle.std.proofs.Common.{◌≡◌, ◌≤◌, ◌<◌, ◌∷◌, length, None, refl, sym, ap, subst, ◌∙◌, arith}
use Rattle.std.specs.Option.{MatchOption}
use Rattle.sky_base.specs.Val.{known, refs}
use Rattle.sky_base.specs.View.{view}
use Rattle.sky_base.specs.JobView.{job_view}
use Rattle.sky_base_law.specs.Tasks.{In}
use Rattle.ciel_json.specs.Around.{json_around}
use Rattle.sky_base_known.specs.Walk.{known_of, number_of, object_at}
use Rattle.sky_plain.specs.Stage.{AllKnown}
use Rattle.sky_plain.specs.Stand.{Opens}
use Rattle.sky_base_known.proofs.Learn.{most_is}
use Rattle.sky_base_exec.specs.Outputs.{OnlyOutputs}
use Rattle.sky_plain.proofs.Called.{executed_waits, executed_known, executed_here}
use Rattle.sky_plain.proofs.OpenWork.{stays_keeps}
use Rattle.sky_plain.proofs.settle.executed.Goals as goal

pub returns-in-Some : goal.returns-in-Some
returns-in-Some g c =
    record {
      step = λ i at ks standing opens.
          let found = subst (λ o. MatchOption o (AllKnown c.args.objects.now (refs (view c.args.args.now)))
          (λ m. In (known m) (refs (view c.args.args.now)) × (known_of c.args.objects.now (known m) ≡ None))) c.in-Some.is
          c.in_ok-name.ensures in
          let w = executed_waits (job_view c.args.job.now) (g.K.Kit.gives c.args.kit.now) c.args.rows.now c.args.objects.now c.args.number
          standing c.args.executor.now (view c.args.args.now) c.args.outputs i at ks c.in-Some.name opens found.0 in
          let small : length c.args.rows.now ≤ 65536 = subst (λ m. length c.args.rows.now ≤ m) most_is c.len-held.ensures.room in
          let below : number_of c.in-Some.name < length c.args.rows.now = w.0 in
          let is : c.number_of.result ≡ number_of c.in-Some.name = c.number_of.ensures (omega (arith, small, below)) in (
            standing,
            refl,
            subst (λ j. j < length c.args.rows.now) (sym is) w.0,
            ap (object_at c.args.objects.now) is ∙ found.1,
            subst (λ j. Opens (job_view c.args.job.now) (json_around (g.K.Kit.gives c.args.kit.now)) c.args.rows.now (j ∷ c.args.number ∷ ks))
                (sym is) w.1,
          );
    }

pub returns : goal.returns
returns g c =
    record {
      step = λ i at ks standing opens.
          let all = subst (λ o. MatchOption o (AllKnown c.args.objects.now (refs (view c.args.args.now)))
          (λ m. In (known m) (refs (view c.args.args.now)) × (known_of c.args.objects.now (known m) ≡ None))) c.in_default.is
          c.in_ok-name.ensures in
          let small : length c.args.rows.now ≤ 65536 = subst (λ m. length c.args.rows.now ≤ m) most_is c.len-held.ensures.room in
          let only = subst (λ r. OnlyOutputs c.args.rows.now c.args.executor.now (view c.args.args.now) c.args.outputs r c.args.outputs
          c.args.objects.now c.tell.new.objects) c.in_ok-made.ensures.made c.tell.ensures.only in (
            executed_known (job_view c.args.job.now) (g.K.Kit.gives c.args.kit.now) c.args.rows.now c.args.objects.now c.args.number standing
                c.args.executor.now (view c.args.args.now) c.args.outputs i at c.tell.new.objects all only,
            executed_here (job_view c.args.job.now) (g.K.Kit.gives c.args.kit.now) c.args.rows.now c.args.objects.now c.args.number standing
                c.args.executor.now (view c.args.args.now) c.args.outputs i at c.tell.new.objects c.in_ok-tell.ensures.known,
            stays_keeps c.args.objects.now c.tell.new.objects c.tell.ensures.kept,
            λ few. c.in_ok-tell.ensures.room 65536 few small,
          );
    }
