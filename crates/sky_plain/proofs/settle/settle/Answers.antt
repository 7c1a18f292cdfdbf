use Rattle.std.proofs.Common.{◌≡◌, ◌≤◌, ◌<◌, suc, ◌∷◌, length, drop, refl, sym, ap, subst, ◌∙◌, arith}
use Rattle.sky_base.specs.JobView.{job_view}
use Rattle.sky_base.specs.See.{Job, Around}
use Rattle.ciel_json.specs.Around.{json_around}
use Rattle.sky_plain.specs.Settle.{rank, Stepped, Open, Stays}
use Rattle.sky_plain.proofs.OpenWork.{args_kept, calls_kept, begins_self, begins_over, stays_self, stays_over, known_falls, open_popped, open_known}
use Rattle.sky_plain.proofs.OpenWork.{open_more, open_held, open_deep, most_open_is}
use Rattle.sky_plain.proofs.settle.settle.Goals as goal

pub loop-top-init : goal.loop-top-init
loop-top-init g c =
    let is = c.in_ok-push.ensures.ok ∙ ap (λ z. c.args.first ∷ z) c.new-open.ensures in
    record {
      standing = c.requires.standing;
      grows = begins_self c.args.rows.now;
      small = c.requires.small;
      stays = stays_self c.args.objects.now;
      open_work = subst (Open (job_view c.args.job.now) (json_around (g.K.Kit.gives c.args.kit.now)) c.args.rows.now c.args.objects.now
          c.args.first) (sym is) (c.requires.opens, refl);
      few = subst (λ z. length z ≤ 4096) (sym is) (omega arith);
    }

pub loop-top-preserved-then-has : goal.loop-top-preserved-then-has
loop-top-preserved-then-has g c =
    let rest = c.in-Some.ensures.0 in
    let is = c.in-Some.ensures.1 in
    let popped = c.pop.ensures ∙ ap (drop 1) is in
    let few : length c.loop-top.open ≤ 4096 = c.loop-top.invariant.few in
    let same : length c.loop-top.open ≡ suc (length rest) = ap length is in
    record {
      standing = c.loop-top.invariant.standing;
      grows = c.loop-top.invariant.grows;
      small = c.loop-top.invariant.small;
      stays = c.loop-top.invariant.stays;
      open_work = subst (Open (job_view c.args.job.now) (json_around (g.K.Kit.gives c.args.kit.now)) c.loop-top.rows c.loop-top.objects
          c.args.first) (sym popped) (open_popped (job_view c.args.job.now) (json_around (g.K.Kit.gives c.args.kit.now)) c.loop-top.rows
          c.loop-top.objects c.args.first c.in-Some.top rest (sym c.has.ensures ∙ c.if-has.true)
          (subst (Open (job_view c.args.job.now) (json_around (g.K.Kit.gives c.args.kit.now)) c.loop-top.rows c.loop-top.objects c.args.first) is
          c.loop-top.invariant.open_work));
      few = subst (λ z. length z ≤ 4096) (sym popped) (omega (arith, few, same));
    }

pub advance-requires-clause-held : goal.advance-requires-clause-held
advance-requires-clause-held g c =
    open_held (job_view c.args.job.now) (json_around (g.K.Kit.gives c.args.kit.now)) c.loop-top.rows c.loop-top.objects c.args.first
    c.in-Some.top c.in-Some.ensures.0 c.len-held.ensures.apart c.len-held.ensures.room
    (subst (Open (job_view c.args.job.now) (json_around (g.K.Kit.gives c.args.kit.now)) c.loop-top.rows c.loop-top.objects c.args.first)
    c.in-Some.ensures.1 c.loop-top.invariant.open_work)

pub advance-requires-clause-kept : goal.advance-requires-clause-kept
advance-requires-clause-kept g c =
    calls_kept (job_view c.args.job.now) (json_around (g.K.Kit.gives c.args.kit.now)) c.loop-top.rows c.loop-top.objects c.loop-top.invariant.standing

pub advance-requires-clause-kept_args : goal.advance-requires-clause-kept_args
advance-requires-clause-kept_args g c =
    args_kept (job_view c.args.job.now) (json_around (g.K.Kit.gives c.args.kit.now)) c.loop-top.rows c.loop-top.objects c.loop-top.invariant.standing

pub loop-top-smaller-in-Known : goal.loop-top-smaller-in-Known
loop-top-smaller-in-Known g c =
    let job : Job = job_view c.args.job.now in
    let around : Around = json_around (g.K.Kit.gives c.args.kit.now) in
    let rest = c.in-Some.ensures.0 in
    let is = c.in-Some.ensures.1 in
    let work = subst (Open job around c.loop-top.rows c.loop-top.objects c.args.first) is c.loop-top.invariant.open_work in
    let step = subst (Stepped job around rest c.in-Some.top c.advance.new.rows c.loop-top.objects c.advance.new.objects) c.in-Known.is
    (c.in_ok-advance.ensures.step rest c.loop-top.invariant.standing work.0) in
    let few : length c.loop-top.open ≤ 4096 = c.loop-top.invariant.few in
    let same : length c.loop-top.open ≡ suc (length rest) = ap length is in
    let falls = known_falls c.loop-top.objects c.advance.new.objects c.in-Some.top rest step.2 step.1 (step.3 c.loop-top.invariant.small)
    (omega (arith, few, same)) (sym c.has.ensures ∙ c.if-has.false) in
    subst (λ z. rank c.advance.new.objects z < rank c.loop-top.objects z) (sym is) falls

pub loop-top-preserved-in-Known : goal.loop-top-preserved-in-Known
loop-top-preserved-in-Known g c =
    let job : Job = job_view c.args.job.now in
    let around : Around = json_around (g.K.Kit.gives c.args.kit.now) in
    let rest = c.in-Some.ensures.0 in
    let is = c.in-Some.ensures.1 in
    let work = subst (Open job around c.loop-top.rows c.loop-top.objects c.args.first) is c.loop-top.invariant.open_work in
    let step = subst (Stepped job around rest c.in-Some.top c.advance.new.rows c.loop-top.objects c.advance.new.objects) c.in-Known.is
    (c.in_ok-advance.ensures.step rest c.loop-top.invariant.standing work.0) in
    record {
      standing = step.0;
      grows = begins_over c.args.rows.now c.loop-top.rows c.advance.new.rows c.loop-top.invariant.grows c.in_ok-advance.ensures.grows;
      small = step.3 c.loop-top.invariant.small;
      stays = stays_over c.args.objects.now c.loop-top.objects c.advance.new.objects c.loop-top.invariant.stays step.2;
      open_work = subst (Open job around c.advance.new.rows c.advance.new.objects c.args.first) (sym is)
          (open_known job around c.loop-top.rows c.advance.new.rows c.loop-top.objects c.advance.new.objects c.args.first c.in-Some.top rest
          c.in_ok-advance.ensures.grows work);
      few = c.loop-top.invariant.few;
    }

pub returns-then-len-ge-MOST_OPEN-clause-settled : goal.returns-then-len-ge-MOST_OPEN-clause-settled
returns-then-len-ge-MOST_OPEN-clause-settled g c =
    let job : Job = job_view c.args.job.now in
    let around : Around = json_around (g.K.Kit.gives c.args.kit.now) in
    let rest = c.in-Some.ensures.0 in
    let is = c.in-Some.ensures.1 in
    let few : length c.loop-top.open ≤ 4096 = c.loop-top.invariant.few in
    let many : 4096 ≤ c.len.result = c.if-len-ge-MOST_OPEN.true in
    let len : c.len.result ≡ length c.loop-top.open = c.len.ensures in
    let all : length c.loop-top.open ≡ 4096 = omega (arith, few, many, len) in
    open_deep job around c.loop-top.rows c.loop-top.objects c.args.first c.in-Some.top rest c.len-held.ensures.apart c.len-held.ensures.room
    (ap length (sym is) ∙ all ∙ sym most_open_is)
    (subst (Open job around c.loop-top.rows c.loop-top.objects c.args.first) is c.loop-top.invariant.open_work)

pub loop-top-preserved : goal.loop-top-preserved
loop-top-preserved g c =
    let job : Job = job_view c.args.job.now in
    let around : Around = json_around (g.K.Kit.gives c.args.kit.now) in
    let rest = c.in-Some.ensures.0 in
    let is = c.in-Some.ensures.1 in
    let work = subst (Open job around c.loop-top.rows c.loop-top.objects c.args.first) is c.loop-top.invariant.open_work in
    let step = subst (Stepped job around rest c.in-Some.top c.advance.new.rows c.loop-top.objects c.advance.new.objects) c.in-Waits.is
    (c.in_ok-advance.ensures.step rest c.loop-top.invariant.standing work.0) in
    let pushed = c.in_ok-push-in-Waits.ensures.ok ∙ ap (λ z. c.in-Waits.next ∷ z) is in
    let few : c.len.result < 4096 = c.if-len-ge-MOST_OPEN.false in
    let len : c.len.result ≡ length c.loop-top.open = c.len.ensures in
    let same : length c.loop-top.open ≡ suc (length rest) = ap length is in
    record {
      standing = step.0;
      grows = begins_over c.args.rows.now c.loop-top.rows c.advance.new.rows c.loop-top.invariant.grows c.in_ok-advance.ensures.grows;
      small = subst (λ z. length z ≤ 65536) (sym step.1) c.loop-top.invariant.small;
      stays = subst (Stays c.args.objects.now) (sym step.1) c.loop-top.invariant.stays;
      open_work = subst (Open job around c.advance.new.rows c.advance.new.objects c.args.first) (sym pushed)
          (open_more job around c.loop-top.rows c.advance.new.rows c.loop-top.objects c.advance.new.objects c.args.first c.in-Waits.next
          c.in-Some.top rest step.4 work);
      few = subst (λ z. length z ≤ 4096) (sym pushed) (omega (arith, few, len, same));
    }
