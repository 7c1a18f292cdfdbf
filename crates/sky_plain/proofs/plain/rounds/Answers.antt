use Rattle.std.proofs.Common.{◌≤◌, ◌-◌, [], length, sym, subst, arith}
use Rattle.sky_base.specs.JobView.{job_view}
use Rattle.sky_base.specs.See.{Job, Around, Answered}
use Rattle.sky_base_law.specs.Sound.{SoundOver}
use Rattle.sky_base.specs.Val.{call, known, no_pairs, no_vals, ref, refs}
use Rattle.sky_base.specs.View.{view}
use Rattle.ciel_json.specs.Around.{json_around}
use Rattle.sky_base_known.specs.Data.{data_of}
use Rattle.sky_base_known.specs.Walk.{known_of}
use Rattle.sky_base_waves.specs.Wave.{last_at, turn_at}
use Rattle.sky_base_waves.specs.WaveView.{EndsSo, TurnsSo}
use Rattle.sky_plain.specs.Stage.{Stage}
use Rattle.sky_plain.specs.Stand.{Below}
use Rattle.sky_plain.specs.Whole.{GatheredSo}
use Rattle.sky_plain.proofs.Called.{Writes}
use Rattle.sky_base_known.proofs.Learn.{most_is}
use Rattle.sky_base_known.proofs.Numbers.{got_below}
use Rattle.sky_plain.proofs.OpenWork.{most_open_is}
use Rattle.sky_plain.proofs.Rounds.{bytes_some, fault_some, fine_more, next_fine, opens_all, start_fine, wave_ends, wave_last, wave_next}
use Rattle.sky_plain.proofs.Stages.{stage_more, stage_start}
use Rattle.sky_plain.proofs.plain.rounds.Goals as goal

pub loop-wave-init : goal.loop-wave-init
loop-wave-init g c =
    let first = c.requires.standing.main_is in
    record {
      standing = c.requires.standing;
      small = c.requires.small;
      stage = subst (λ b. Stage (job_view c.args.job.now) (json_around (g.K.Kit.gives c.args.kit.now)) c.args.rows.now 0 101 (ref (known b)))
          (sym c.slot.ensures) (stage_start (job_view c.args.job.now) (json_around (g.K.Kit.gives c.args.kit.now)) c.args.rows.now first);
      fine = subst (λ b. SoundOver (Below (length c.args.rows.now)) c.args.job.now.script (ref (known b))) (sym c.slot.ensures)
          (start_fine c.args.job.now.script c.args.rows.now (got_below c.args.rows.now 0 (call [] no_pairs no_vals) first));
      few = omega arith;
    }

pub gather-requires-clause-small : goal.gather-requires-clause-small
gather-requires-clause-small g c = c.loop-wave.invariant.small

pub gather-requires-clause-standing : goal.gather-requires-clause-standing
gather-requires-clause-standing g c = c.loop-wave.invariant.standing

pub gather-requires-clause-opens : goal.gather-requires-clause-opens
gather-requires-clause-opens g c =
    opens_all (job_view c.args.job.now) (g.K.Kit.gives c.args.kit.now) c.loop-wave.rows c.loop-wave.wave (101 - c.loop-wave.wave)
    (view c.loop-wave.value) c.loop-wave-test.true c.loop-wave.invariant.stage c.loop-wave.invariant.fine

pub returns-in-TooDeep : goal.returns-in-TooDeep
returns-in-TooDeep g c =
    let job : Job = job_view c.args.job.now in
    let around : Around = json_around (g.K.Kit.gives c.args.kit.now) in
    let gathered = subst (GatheredSo job around (refs (view c.loop-wave.value)) c.gather.new.rows c.gather.new.objects) c.in-TooDeep.is
    c.in_ok-gather.ensures.gathered in
    record { answer = (sym most_open_is, gathered) }

pub returns-in-Full : goal.returns-in-Full
returns-in-Full g c =
    let job : Job = job_view c.args.job.now in
    let around : Around = json_around (g.K.Kit.gives c.args.kit.now) in
    let gathered = subst (GatheredSo job around (refs (view c.loop-wave.value)) c.gather.new.rows c.gather.new.objects) c.in-Full.is
    c.in_ok-gather.ensures.gathered in
    record { answer = (sym most_is, gathered) }

pub turn-requires : goal.turn-requires
turn-requires g c = c.loop-wave.invariant.fine.0

pub returns-in-Text : goal.returns-in-Text
returns-in-Text g c =
    let job : Job = job_view c.args.job.now in
    let around : Around = json_around (g.K.Kit.gives c.args.kit.now) in
    let gathered = subst (GatheredSo job around (refs (view c.loop-wave.value)) c.gather.new.rows c.gather.new.objects) c.in-Known.is
    c.in_ok-gather.ensures.gathered in
    let le : c.loop-wave.wave ≤ 100 = c.loop-wave-test.true in
    let more = c.in_ok-gather.ensures.grows in
    let stage = stage_more job around c.loop-wave.rows more.0 c.gather.new.rows c.loop-wave.wave (101 - c.loop-wave.wave)
    (view c.loop-wave.value) more.1 c.loop-wave.invariant.stage in
    let turned = subst (λ t. TurnsSo t (turn_at data_of Writes (known_of c.gather.new.objects) (view c.loop-wave.value))) c.in-Text.is
    c.in_ok-bytes.ensures in
    record {
      answer = wave_ends (job_view c.args.job.now) (g.K.Kit.gives c.args.kit.now) c.gather.new.rows c.gather.new.objects c.loop-wave.wave le
          (view c.loop-wave.value) stage gathered.0 gathered.1 (Answered.bytes c.in-Text.bytes) c.len-held.ensures.apart c.len-held.ensures.room
          (bytes_some c.in-Text.bytes) turned;
    }

pub returns-in-Fault : goal.returns-in-Fault
returns-in-Fault g c =
    let job : Job = job_view c.args.job.now in
    let around : Around = json_around (g.K.Kit.gives c.args.kit.now) in
    let gathered = subst (GatheredSo job around (refs (view c.loop-wave.value)) c.gather.new.rows c.gather.new.objects) c.in-Known.is
    c.in_ok-gather.ensures.gathered in
    let le : c.loop-wave.wave ≤ 100 = c.loop-wave-test.true in
    let more = c.in_ok-gather.ensures.grows in
    let stage = stage_more job around c.loop-wave.rows more.0 c.gather.new.rows c.loop-wave.wave (101 - c.loop-wave.wave)
    (view c.loop-wave.value) more.1 c.loop-wave.invariant.stage in
    let turned = subst (λ t. TurnsSo t (turn_at data_of Writes (known_of c.gather.new.objects) (view c.loop-wave.value))) c.in-Fault.is
    c.in_ok-bytes.ensures in
    record {
      answer = wave_ends (job_view c.args.job.now) (g.K.Kit.gives c.args.kit.now) c.gather.new.rows c.gather.new.objects c.loop-wave.wave le
          (view c.loop-wave.value) stage gathered.0 gathered.1 (Answered.fault c.in-Fault.fault) c.len-held.ensures.apart c.len-held.ensures.room
          (fault_some c.in-Fault.fault) turned;
    }

pub loop-wave-preserved : goal.loop-wave-preserved
loop-wave-preserved g c =
    let job : Job = job_view c.args.job.now in
    let around : Around = json_around (g.K.Kit.gives c.args.kit.now) in
    let gathered = subst (GatheredSo job around (refs (view c.loop-wave.value)) c.gather.new.rows c.gather.new.objects) c.in-Known.is
    c.in_ok-gather.ensures.gathered in
    let le : c.loop-wave.wave ≤ 100 = c.loop-wave-test.true in
    let more = c.in_ok-gather.ensures.grows in
    let stage = stage_more job around c.loop-wave.rows more.0 c.gather.new.rows c.loop-wave.wave (101 - c.loop-wave.wave)
    (view c.loop-wave.value) more.1 c.loop-wave.invariant.stage in
    let turned = subst (λ t. TurnsSo t (turn_at data_of Writes (known_of c.gather.new.objects) (view c.loop-wave.value))) c.in-Next.is
    c.in_ok-bytes.ensures in
    record {
      standing = gathered.0;
      small = gathered.2;
      stage = wave_next (job_view c.args.job.now) (g.K.Kit.gives c.args.kit.now) c.gather.new.rows c.gather.new.objects c.loop-wave.wave le
          (view c.loop-wave.value) stage gathered.0 gathered.1 (view c.in-Next.next) turned;
      fine = next_fine c.args.job.now.script c.gather.new.rows c.gather.new.objects gathered.0.fits (view c.loop-wave.value)
          (view c.in-Next.next) (fine_more c.args.job.now.script c.loop-wave.rows c.gather.new.rows (view c.loop-wave.value) more
          c.loop-wave.invariant.fine) turned;
      few = omega (arith, le);
    }

pub last_turn-requires : goal.last_turn-requires
last_turn-requires g c = c.loop-wave.invariant.fine.0

pub returns-in-Text-2 : goal.returns-in-Text-2
returns-in-Text-2 g c =
    let done = subst (λ t. EndsSo t (last_at (refs (view c.loop-wave.value)) (Writes (view c.loop-wave.value)))) c.in-Text-2.is
    c.in_ok-bytes-2.ensures in
    record {
      answer = wave_last (job_view c.args.job.now) (g.K.Kit.gives c.args.kit.now) c.loop-wave.rows c.loop-wave.wave (view c.loop-wave.value)
          (Answered.bytes c.in-Text-2.bytes) c.loop-wave-test.false c.loop-wave.invariant.few c.loop-wave.invariant.stage
          c.len-last.ensures.apart c.len-last.ensures.room (bytes_some c.in-Text-2.bytes) done;
    }

pub returns-in-Fault-2 : goal.returns-in-Fault-2
returns-in-Fault-2 g c =
    let done = subst (λ t. EndsSo t (last_at (refs (view c.loop-wave.value)) (Writes (view c.loop-wave.value)))) c.in-Fault-2.is
    c.in_ok-bytes-2.ensures in
    record {
      answer = wave_last (job_view c.args.job.now) (g.K.Kit.gives c.args.kit.now) c.loop-wave.rows c.loop-wave.wave (view c.loop-wave.value)
          (Answered.fault c.in-Fault-2.fault) c.loop-wave-test.false c.loop-wave.invariant.few c.loop-wave.invariant.stage
          c.len-last.ensures.apart c.len-last.ensures.room (fault_some c.in-Fault-2.fault) done;
    }
