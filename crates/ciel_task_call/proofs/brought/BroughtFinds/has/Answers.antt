use Rattle.std.proofs.Common.{◌∙◌}
use Rattle.sky_base.specs.JobView.{job_view}
use Rattle.ciel_task_call.proofs.FoundInputs.{has_so}
use Rattle.ciel_task_call.proofs.brought.BroughtFinds.has.Goals as goal

pub returns : goal.returns
returns g c =
    let b = c.args.self.now in
    c.is_some.ensures ∙ has_so b.shelves.now (job_view b.job.now).script (job_view b.job.now).inputs b.held.now c.requires.spots (λ h. h.now)
    c.args.name.now c.find.result c.find.ensures.found
