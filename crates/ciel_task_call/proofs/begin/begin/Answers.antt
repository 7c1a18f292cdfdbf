use Rattle.std.proofs.Common.{length, subst}
use Rattle.sky_base.specs.JobView.{job_view}
use Rattle.sky_base.specs.Tree.{Script}
use Rattle.sky_state.specs.Fits.{Fits}
use Rattle.sky_state.specs.StateView.{stand_of}
use Rattle.ciel_task_call.specs.Begins.{IsStartOf}
use Rattle.ciel_task_call.proofs.TaskStart.{start_begins}
use Rattle.ciel_task_call.proofs.begin.begin.Goals as goal

pub returns-in_ok-state-in-None-clause-begun : goal.returns-in_ok-state-in-None-clause-begun
returns-in_ok-state-in-None-clause-begun g c =
    let order = c.args.order.now in
    let x = stand_of c.in_ok-state-in-None.state in
    let starts = subst (λ (sc : Script). IsStartOf sc order.main order.desc x) c.numbered-numbered.ensures.code c.in_ok-state-in-None.ensures.start in
    let fits = subst (λ (sc : Script). Fits sc x) c.numbered-numbered.ensures.code c.in_ok-state-in-None.ensures.fits in (
      start_begins (g.N.Namer.digest c.args.shop.now.namer) c.args.shop.now.shelves (job_view c.args.shop.now.job).script
          (length (job_view c.args.shop.now.job).inputs) order x c.requires.sound c.requires.state c.in-None.is starts fits,
      c.in_ok-state-in-None.ensures.spawned,
    )
