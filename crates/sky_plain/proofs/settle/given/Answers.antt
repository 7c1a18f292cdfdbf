use Rattle.std.proofs.Common.{◌≡◌, sym, ap, subst, ◌∙◌}
use Rattle.sky_base.specs.Res.{Object}
use Rattle.sky_base.specs.JobView.{job_view}
use Rattle.sky_base.specs.See.{input_bytes}
use Rattle.ciel_json.specs.Around.{json_around}
use Rattle.sky_base_known.specs.Known.{with_object}
use Rattle.sky_plain.specs.Stand.{Standing}
use Rattle.sky_base.specs.Val.{input}
use Rattle.sky_base_known.proofs.Numbers.{got_below}
use Rattle.sky_plain.proofs.Called.{inputs_known}
use Rattle.sky_plain.proofs.OpenWork.{known_with, stays_put, small_with}
use Rattle.sky_plain.proofs.settle.given.Goals as goal

pub returns : goal.returns
returns g c =
    record {
      step = λ ks standing opens.
          let is : c.set.new.self ≡ with_object c.args.number (Object.bytes (input_bytes c.args.key.now c.args.job.now.inputs))
          c.args.objects.now = c.in_ok-set.ensures.put
          ∙ ap (λ b. with_object c.args.number (Object.bytes b) c.args.objects.now) c.in_ok-bytes.ensures in (
            subst (Standing (job_view c.args.job.now) (json_around (g.K.Kit.gives c.args._kit.now)) c.args.rows.now) (sym is)
                (inputs_known (job_view c.args.job.now) (g.K.Kit.gives c.args._kit.now) c.args.rows.now c.args.objects.now c.args.number standing
                c.args.key.now c.requires.at),
            known_with c.args.number (Object.bytes (input_bytes c.args.key.now c.args.job.now.inputs))
                c.args.objects.now c.set.new.self is,
            stays_put c.args.number (Object.bytes (input_bytes c.args.key.now c.args.job.now.inputs))
                c.args.objects.now c.set.new.self is,
            small_with c.args.number (Object.bytes (input_bytes c.args.key.now c.args.job.now.inputs))
                c.args.objects.now c.set.new.self is c.args.rows.now (got_below c.args.rows.now c.args.number (input c.args.key.now) c.requires.at)
                c.len-held.ensures.room,
          );
    }
