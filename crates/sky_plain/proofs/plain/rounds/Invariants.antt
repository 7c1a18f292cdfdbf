use Rattle.std.proofs.Common.{◌≤◌, ◌+◌, ◌-◌, length}
use Rattle.sky_base.specs.JobView.{job_view}
use Rattle.sky_base_law.specs.Sound.{SoundOver}
use Rattle.sky_base.specs.View.{view}
use Rattle.ciel_json.specs.Around.{json_around}
use Rattle.sky_plain.specs.Stage.{Stage}
use Rattle.sky_plain.specs.Stand.{Below, Standing}
use Rattle.sky_plain.proofs.plain.rounds.Given as goal

abbrev pub invariant-loop-wave : goal.invariant-loop-wave
invariant-loop-wave g l = record {
  standing : Standing (job_view l.job) (json_around (g.K.Kit.gives l.kit)) l.rows l.objects;
  small : length l.objects ≤ 65536;
  stage : Stage (job_view l.job) (json_around (g.K.Kit.gives l.kit)) l.rows l.wave (101 - l.wave) (view l.value);
  fine : SoundOver (Below (length l.rows)) l.job.script (view l.value);
  few : l.wave ≤ 101;
}

abbrev pub decreases-loop-wave : goal.decreases-loop-wave
decreases-loop-wave g l = 100 + 1 - l.wave
