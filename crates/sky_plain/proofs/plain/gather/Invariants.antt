use Rattle.std.proofs.Common.{◌≤◌, ◌-◌, length}
use Rattle.sky_base.specs.JobView.{job_view}
use Rattle.sky_base.specs.Val.{refs}
use Rattle.sky_base.specs.View.{view}
use Rattle.ciel_json.specs.Around.{json_around}
use Rattle.sky_plain_body.specs.Ran.{Begins}
use Rattle.sky_plain.specs.Settle.{count}
use Rattle.sky_plain.specs.Stand.{Standing}
use Rattle.sky_plain.specs.Whole.{OpensAll}
use Rattle.sky_plain.proofs.plain.gather.Given as goal

abbrev pub invariant-loop-name : goal.invariant-loop-name
invariant-loop-name g l = record {
  standing : Standing (job_view l.job) (json_around (g.K.Kit.gives l.kit)) l.rows l.objects;
  grows : Begins l.fn.rows l.rows;
  small : length l.objects ≤ 65536;
  opens : OpensAll (job_view l.job) (json_around (g.K.Kit.gives l.kit)) l.rows (refs (view l.value));
}

abbrev pub decreases-loop-name : goal.decreases-loop-name
decreases-loop-name g l = 65536 - count l.objects
