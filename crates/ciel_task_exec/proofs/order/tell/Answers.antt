use Rattle.std.proofs.Common.{Global, List, Vec, ap, map, subst, sym, ◌∙◌}
use Rattle.sky_base.specs.JobView.{job_view}
use Rattle.sky_base.specs.Val.{distinct, refs, same_text}
use Rattle.sky_base.specs.View.{view}
use Rattle.sky_base.specs.declared.object.Named.{Named}
use Rattle.sky_base_law.specs.Sound.{SoundDesc}
use Rattle.sky_base_law.specs.Tasks.{Each}
use Rattle.ciel_master_board.specs.Reports.{named_view}
use Rattle.ciel_task_inputs.specs.Fetched.{TellsFetched}
use Rattle.ciel_task_order.specs.Orders.{names_in}
use Rattle.ciel_task_order.specs.declared.block.Held.{Held}
use Rattle.ciel_task_exec.specs.Runs.{SeenBy}
use Rattle.ciel_task_exec.specs.Outputs.{AreOutputs}
use Rattle.ciel_task_exec.proofs.ReportPromise.{performs_made, places_made}
use Rattle.ciel_task_exec.proofs.ReportSafety.{made_safe}
use Rattle.ciel_task_exec.proofs.order.tell.Goals as goal

pub returns-clause-performs : goal.returns-clause-performs
returns-clause-performs g c =
    let digest = g.N.Namer.digest c.args.shop.now.namer in
    let shelves = c.args.shop.now.shelves in
    let x = c.args.executor.now in
    let n = c.args.outputs in
    let ms = c.in_ok-outputs.outputs in
    performs_made digest shelves (job_view c.args.shop.now.job) (g.K.Kit.gives c.args.shop.now.kit) c.args.order.now c.requires.sound
    c.requires.inputs x c.args.args.now n c.requires.desc c.report.result c.report.ensures.number c.report.ensures.worker c.report.ensures.task
    c.report.ensures.spawned ms c.args.copied c.report.ensures.copied c.report.ensures.end
    (subst (λ r. AreOutputs digest shelves c.args.order.now.worker x (view c.args.args.now) n r ms.items) c.requires.made c.in_ok-outputs.ensures)
    c.requires.copied.0 c.requires.copied.1

pub returns-clause-places : goal.returns-clause-places
returns-clause-places g c =
    let digest = g.N.Namer.digest c.args.shop.now.namer in
    let shelves = c.args.shop.now.shelves in
    let x = c.args.executor.now in
    let n = c.args.outputs in
    let ms = c.in_ok-outputs.outputs in
    places_made digest shelves (job_view c.args.shop.now.job) (g.K.Kit.gives c.args.shop.now.kit) c.args.order.now c.requires.sound
    c.requires.inputs x c.args.args.now n c.requires.desc c.report.result ms c.args.copied c.report.ensures.copied c.report.ensures.end
    (subst (λ r. AreOutputs digest shelves c.args.order.now.worker x (view c.args.args.now) n r ms.items) c.requires.made c.in_ok-outputs.ensures)
    c.requires.copied.0

pub returns-clause-safely : goal.returns-clause-safely
returns-clause-safely g c =
    let digest = g.N.Namer.digest c.args.shop.now.namer in
    let shelves = c.args.shop.now.shelves in
    let job = job_view c.args.shop.now.job in
    let x = c.args.executor.now in
    let n = c.args.outputs in
    let ms = c.in_ok-outputs.outputs in (
      subst (λ (ns : List Named). Each (SoundDesc job.script) (map named_view ns)) (sym c.report.ensures.spawned) tt,
      λ b keys rows desc none.
          made_safe digest shelves job.script job.inputs c.args.order.now c.requires.sound x c.args.args.now n c.requires.desc _ ms c.args.copied
          (subst (λ r. AreOutputs digest shelves c.args.order.now.worker x (view c.args.args.now) n r ms.items) c.requires.made c.in_ok-outputs.ensures)
          c.requires.copied.0 c.report.result c.report.ensures.spawned c.report.ensures.copied c.report.ensures.end b rows desc,
    )

pub returns-clause-tells : goal.returns-clause-tells
returns-clause-tells g c =
    let order = c.args.order.now in
    let ds = distinct same_text (refs (view c.args.args.now)) in
    subst (λ e. TellsFetched order.worker order.inputs.items ds e c.report.result.copied.items) (sym c.report.ensures.end)
    (ap (λ (v : Vec Held Global). names_in v.items) c.report.ensures.copied ∙ c.requires.copied.1)

pub returns-clause-seen : goal.returns-clause-seen
returns-clause-seen g c e = subst (SeenBy e) (sym c.report.ensures.end) tt
