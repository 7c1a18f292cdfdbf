use Rattle.std.proofs.Common.{[], ◌∷◌, ◌++◌, take, Some, length, map, ◌≡◌, refl, sym, ap, subst, ◌∙◌}
use Rattle.std.specs.Result.{IfOk, MatchResult}
use Rattle.sky_base.specs.JobView.{job_view}
use Rattle.sky_base.specs.ObjectView.{object_view}
use Rattle.sky_base_law.specs.Sound.{SoundObject}
use Rattle.sky_base_law.specs.Tasks.{Each, In}
use Rattle.sky_base_law.proofs.Lists.{each_both}
use Rattle.ciel_task_order.specs.Orders.{SpotSound, names_in}
use Rattle.ciel_task_order.specs.declared.block.Held.{Held}
use Rattle.ciel_task_inputs.specs.Gathers.{CopiedFor}
use Rattle.ciel_task_inputs.specs.Lies.{CopiedSo, LostAt, held_name, lies_at}
use Rattle.ciel_task_inputs.proofs.GatheredInputs.{copied_more, each_found, each_index, found_some, gathered_more, in_index, seen_of, split_at}
use Rattle.ciel_task_inputs.proofs.gather.gather.Goals as goal

pub unreachable-requires : goal.unreachable-requires
unreachable-requires g c =
    found_some held_name c.name-item.result c.args.held.now
    (each_index (λ n. In n (names_in c.args.held.now)) c.args.names.now c.loop-name.name-index c.name-item.result c.requires.names
    c.loop-name-test.true c.name-item.is) c.in_default.ensures.found

pub bring-requires-clause-spot : goal.bring-requires-clause-spot
bring-requires-clause-spot g c =
    each_found held_name (λ (h : Held). SpotSound c.args.shelves.now (job_view c.args.job.now).script (length (job_view c.args.job.now).inputs)
    h.at) c.name-item.result c.args.held.now c.in-Some.one.now c.requires.spots c.in-Some.ensures.found

pub returns-in-Err-clause-gathered : goal.returns-in-Err-clause-gathered
returns-in-Err-clause-gathered g c = (
  in_index c.args.names.now c.loop-name.name-index c.name-item.result c.loop-name-test.true c.name-item.is,
  c.in-Some.one.now,
  c.in-Some.ensures.found,
  subst (λ r. MatchResult r
      (λ o. lies_at (job_view c.args.job.now).inputs c.in-Some.one.now.at ≡ Some (object_view o))
      (λ gone. LostAt gone.loss c.in-Some.one.now.at)) c.in-Err.is c.in_ok-object.ensures.object,
)

pub returns-in-Err-clause-copied : goal.returns-in-Err-clause-copied
returns-in-Err-clause-copied g c =
    let s = split_at c.args.names.now c.loop-name.name-index c.name-item.result c.loop-name-test.true c.name-item.is in
    let same = subst (λ r. MatchResult r (λ o. CopiedSo c.args.shelves.now c.args.worker c.in-Some.one.now (object_view o)
    c.loop-name.copied.items c.bring.new.copied.items) (λ _. c.bring.new.copied.items ≡ c.loop-name.copied.items)) c.in-Err.is
    c.in_ok-object.ensures.copied in (
      take c.loop-name.name-index c.args.names.now,
      s.0,
      s.1,
      subst (CopiedFor c.args.shelves.now c.args.worker (job_view c.args.job.now).inputs c.args.held.now c.args.copied.now.items
          (take c.loop-name.name-index c.args.names.now)) (sym same) c.loop-name.invariant.copied,
    )

pub loop-name-init : goal.loop-name-init
loop-name-init g c = record {
  of = c.requires.eye;
  so =
      ap (map (seen_of (job_view c.args.job.now).inputs c.args.held.now)) (sym c.new-objects.ensures.items);
  copied = CopiedFor.none;
  eye = refl;
  sound = subst (Each (λ o. SoundObject (job_view c.args.job.now).script (object_view o))) (sym c.new-objects.ensures.items) tt;
}

pub loop-name-preserved : goal.loop-name-preserved
loop-name-preserved g c =
    let ins = (job_view c.args.job.now).inputs in
    let sc = (job_view c.args.job.now).script in
    let held = c.args.held.now in
    let lies_there : lies_at ins c.in-Some.one.now.at ≡ Some (object_view c.in-Ok.object) =
    subst (λ r. MatchResult r (λ o. lies_at ins c.in-Some.one.now.at ≡ Some (object_view o)) (λ gone. LostAt gone.loss c.in-Some.one.now.at))
    c.in-Ok.is c.in_ok-object.ensures.object in
    let is_sound : SoundObject sc (object_view c.in-Ok.object) =
    subst (λ r. IfOk r (λ o. SoundObject sc (object_view o))) c.in-Ok.is c.in_ok-object.ensures.sound in
    let was_copied : CopiedSo c.args.shelves.now c.args.worker c.in-Some.one.now (object_view c.in-Ok.object) c.loop-name.copied.items
    c.bring.new.copied.items = subst (λ r. MatchResult r
    (λ o. CopiedSo c.args.shelves.now c.args.worker c.in-Some.one.now (object_view o) c.loop-name.copied.items c.bring.new.copied.items)
    (λ _. c.bring.new.copied.items ≡ c.loop-name.copied.items)) c.in-Ok.is c.in_ok-object.ensures.copied in
    let same_eye : c.bring.new.eye ≡ c.loop-name.eye =
    subst (λ r. MatchResult r (λ _. c.bring.new.eye ≡ c.loop-name.eye)
    (λ gone. c.bring.new.eye.losses ≡ c.loop-name.eye.losses ++ gone.loss ∷ [])) c.in-Ok.is c.in_ok-object.ensures.seen in
    record {
      of = c.in_ok-object.ensures.of ∙ c.loop-name.invariant.of;
      so = gathered_more ins held c.args.names.now c.loop-name.name-index c.name-item.result c.in-Some.one.now c.loop-name.objects.items
          c.in-Ok.object c.loop-name-test.true c.name-item.is c.loop-name.invariant.so c.in-Some.ensures.found lies_there
          ∙ ap (map (seen_of ins held)) (sym c.in-Ok-push.ensures.items);
      copied = copied_more c.args.shelves.now c.args.worker ins held c.args.copied.now.items c.args.names.now c.loop-name.name-index
          c.name-item.result c.in-Some.one.now (object_view c.in-Ok.object) c.loop-name.copied.items c.bring.new.copied.items
          c.loop-name-test.true c.name-item.is c.loop-name.invariant.copied c.in-Some.ensures.found lies_there was_copied;
      eye = same_eye ∙ c.loop-name.invariant.eye;
      sound = subst (Each (λ o. SoundObject sc (object_view o))) (sym c.in-Ok-push.ensures.items)
          (each_both (λ o. SoundObject sc (object_view o)) c.loop-name.objects.items (c.in-Ok.object ∷ []) c.loop-name.invariant.sound
          (is_sound, tt));
    }
