use Rattle.std.proofs.Common.{List, Some, ap, map, ◌∙◌, subst, sym}
use Rattle.sky_base.specs.declared.object.Named.{Named}
use Rattle.sky_base_law.specs.Sound.{SoundDesc}
use Rattle.sky_base_law.specs.Tasks.{Each}
use Rattle.ciel_master_board.specs.Reports.{named_view}
use Rattle.sky_base.specs.JobView.{job_view}
use Rattle.ciel_store.specs.Seen.{SeatSeen}
use Rattle.ciel_task_exec.proofs.ReportPromise.{performs_missing}
use Rattle.ciel_task_exec.specs.Runs.{SeenBy}
use Rattle.ciel_task_order.specs.Performs.{IsMissing}
use Rattle.ciel_task_exec.proofs.order.tell_loss.Goals as goal

pub returns-clause-performs : goal.returns-clause-performs
returns-clause-performs g c =
    performs_missing (g.N.Namer.digest c.args.shop.now.namer) c.args.shop.now.shelves (job_view c.args.shop.now.job)
    (g.K.Kit.gives c.args.shop.now.kit) c.args.order.now c.requires.sound c.requires.inputs c.args.executor.now c.args.args.now c.args.outputs
    c.requires.desc c.report.result c.report.ensures.number c.report.ensures.worker c.report.ensures.task c.report.ensures.spawned c.args.name
    c.args.loss c.show.result c.requires.lost.0 c.requires.found.1 c.report.ensures.end c.requires.found.2 c.requires.found.3
    (ap (λ (s : SeatSeen). s.losses) c.show.ensures.0 ∙ c.requires.lost.1)

pub returns-clause-safely : goal.returns-clause-safely
returns-clause-safely g c = (
  subst (λ (ns : List Named). Each (SoundDesc (job_view c.args.shop.now.job).script) (map named_view ns)) (sym c.report.ensures.spawned) tt,
  λ b keys rows desc none. absurd (none (subst IsMissing (sym c.report.ensures.end) tt)),
)

pub returns-clause-seen : goal.returns-clause-seen
returns-clause-seen g c =
    subst (SeenBy c.show.new.eye) (sym c.report.ensures.end) (ap (λ (s : SeatSeen). Some s) (c.show.ensures.0 ∙ sym c.show.ensures.1))
