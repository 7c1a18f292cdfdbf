use Rattle.std.proofs.Common.{◌≤◌, length}
use Rattle.sky_base.specs.JobView.{job_view}
use Rattle.ciel_json.specs.Around.{json_around}
use Rattle.sky_plain_body.specs.Ran.{Begins}
use Rattle.sky_plain.specs.Stand.{Standing}
use Rattle.sky_plain.specs.Settle.{rank, Stays, Open}
use Rattle.sky_plain.proofs.settle.settle.Given as goal

abbrev pub invariant-loop-top : goal.invariant-loop-top
invariant-loop-top g l = record {
  standing : Standing (job_view l.job) (json_around (g.K.Kit.gives l.kit)) l.rows l.objects;
  grows : Begins l.fn.rows l.rows;
  small : length l.objects ≤ 65536;
  stays : Stays l.fn.objects l.objects;
  open_work : Open (job_view l.job) (json_around (g.K.Kit.gives l.kit)) l.rows l.objects l.first l.open;
  few : length l.open ≤ 4096;
}

abbrev pub decreases-loop-top : goal.decreases-loop-top
decreases-loop-top g l = rank l.objects l.open
