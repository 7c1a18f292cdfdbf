use Rattle.std.proofs.Common.{◌≡◌, ◌≤◌, ◌<◌, ◌∷◌, length, refl, sym, ap, subst, ◌∙◌, arith}
use Rattle.sky_base.specs.ObjectView.{object_view}
use Rattle.sky_base.specs.JobView.{job_view}
use Rattle.ciel_json.specs.Around.{json_around}
use Rattle.sky_base_known.specs.Data.{data_of}
use Rattle.sky_base_known.specs.Walk.{number_of, object_at}
use Rattle.sky_plain.specs.Stand.{Opens, Standing}
use Rattle.sky_plain_body.specs.Ran.{RanSo}
use Rattle.sky_plain_body.specs.declared.run.Ran.{Ran}
use Rattle.sky_base_known.proofs.Learn.{most_is}
use Rattle.sky_base.specs.Val.{call}
use Rattle.sky_plain.proofs.OpenWork.{known_with, stays_put, small_with, held_more}
use Rattle.sky_plain.proofs.Called.{called_ends, called_waits, called_unknown, called_many}
use Rattle.sky_plain.proofs.settle.called.Goals as goal

pub returns-in_ok-set-in-Object-clause-step : goal.returns-in_ok-set-in-Object-clause-step
returns-in_ok-set-in-Object-clause-step g c = λ ks standing opens.
    let ran = subst (λ sc. RanSo sc data_of c.args.objects.now c.args.rows.now c.args.fun.now c.args.caught.now c.args.args.now
    c.run_call.new.rows (Ran.Object c.in-Object.object)) c.requires.script
    (subst (RanSo c.args.program.now data_of c.args.objects.now c.args.rows.now c.args.fun.now c.args.caught.now c.args.args.now
    c.run_call.new.rows) c.in-Object.is c.in_ok-ran.ensures.runs) in (
      subst (Standing (job_view c.args.job.now) (json_around (g.K.Kit.gives c.args.kit.now)) c.run_call.new.rows)
          (sym c.in_ok-set-in-Object.ensures.put) (called_ends (job_view c.args.job.now) (g.K.Kit.gives c.args.kit.now) c.args.rows.now
          c.run_call.new.rows c.args.objects.now c.args.number c.args.fun.now c.args.caught.now c.args.args.now c.in_ok-ran.ensures.grows
          c.len-held.ensures.apart c.len-held.ensures.room c.requires.at ks standing opens (object_view c.in-Object.object) ran),
      known_with c.args.number (object_view c.in-Object.object) c.args.objects.now c.set.new.self c.in_ok-set-in-Object.ensures.put,
      stays_put c.args.number (object_view c.in-Object.object) c.args.objects.now c.set.new.self c.in_ok-set-in-Object.ensures.put,
      small_with c.args.number (object_view c.in-Object.object) c.args.objects.now c.set.new.self c.in_ok-set-in-Object.ensures.put
          c.run_call.new.rows (held_more c.args.rows.now c.run_call.new.rows c.args.number (call c.args.fun.now c.args.caught.now c.args.args.now)
          c.in_ok-ran.ensures.grows c.requires.at) c.len-held.ensures.room,
    )

pub returns-in-Waits-clause-step : goal.returns-in-Waits-clause-step
returns-in-Waits-clause-step g c = λ ks standing opens.
    let ran = subst (λ sc. RanSo sc data_of c.args.objects.now c.args.rows.now c.args.fun.now c.args.caught.now c.args.args.now
    c.run_call.new.rows (Ran.Waits c.in-Waits.name)) c.requires.script
    (subst (RanSo c.args.program.now data_of c.args.objects.now c.args.rows.now c.args.fun.now c.args.caught.now c.args.args.now
    c.run_call.new.rows) c.in-Waits.is c.in_ok-ran.ensures.runs) in
    let w = called_waits (job_view c.args.job.now) (g.K.Kit.gives c.args.kit.now) c.args.rows.now c.run_call.new.rows c.args.objects.now
    c.args.number c.args.fun.now c.args.caught.now c.args.args.now c.in_ok-ran.ensures.grows c.len-held.ensures.apart c.len-held.ensures.room
    c.requires.at ks standing opens c.in-Waits.name ran in
    let small : length c.run_call.new.rows ≤ 65536 = subst (λ m. length c.run_call.new.rows ≤ m) most_is c.len-held.ensures.room in
    let below : number_of c.in-Waits.name < length c.run_call.new.rows = w.1 in
    let is : c.number_of.result ≡ number_of c.in-Waits.name = c.number_of.ensures (omega (arith, small, below)) in (
      w.0,
      refl,
      subst (λ i. i < length c.run_call.new.rows) (sym is) w.1,
      ap (object_at c.args.objects.now) is
          ∙ called_unknown (job_view c.args.job.now) (g.K.Kit.gives c.args.kit.now) c.args.rows.now c.run_call.new.rows c.args.objects.now
          c.args.number c.args.fun.now c.args.caught.now c.args.args.now c.in_ok-ran.ensures.grows c.len-held.ensures.apart c.len-held.ensures.room
          c.requires.at ks standing opens c.in-Waits.name ran,
      subst (λ i. Opens (job_view c.args.job.now) (json_around (g.K.Kit.gives c.args.kit.now)) c.run_call.new.rows (i ∷ c.args.number ∷ ks))
          (sym is) w.2,
    )

pub returns-in-Full-clause-step : goal.returns-in-Full-clause-step
returns-in-Full-clause-step g c = λ ks standing opens.
    let ran = subst (λ sc. RanSo sc data_of c.args.objects.now c.args.rows.now c.args.fun.now c.args.caught.now c.args.args.now
    c.run_call.new.rows Ran.Full) c.requires.script
    (subst (RanSo c.args.program.now data_of c.args.objects.now c.args.rows.now c.args.fun.now c.args.caught.now c.args.args.now
    c.run_call.new.rows) c.in-Full.is c.in_ok-ran.ensures.runs) in
    called_many (job_view c.args.job.now) (g.K.Kit.gives c.args.kit.now) c.args.rows.now c.run_call.new.rows c.args.objects.now c.args.number
    c.args.fun.now c.args.caught.now c.args.args.now c.in_ok-ran.ensures.grows c.len-held.ensures.apart c.len-held.ensures.room c.requires.at
    ks standing opens ran
