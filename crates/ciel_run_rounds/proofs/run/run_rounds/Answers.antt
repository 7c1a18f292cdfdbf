-- The gates are those that were lent, and the others.
use Rattle.std.proofs.Common.{map, ap, subst, sym}
use Rattle.sky_base.specs.JobView.{job_view}
use Rattle.ciel_run_job.specs.Onward.{IsRead}
use Rattle.ciel_run_drive.specs.Views.{entry_view}
use Rattle.ciel_run_job.proofs.Lent.{all_back, others_back, told_back}
use Rattle.ciel_run_rounds.proofs.run.run_rounds.Goals as goal

pub by_rounds-ran-requires-clause-read : goal.by_rounds-ran-requires-clause-read
by_rounds-ran-requires-clause-read g c κs within = subst (λ j. IsRead (job_view j).script) (sym c.in-Ok.ensures.shop.job_is) c.requires.read

pub returns-clause-told : goal.returns-clause-told
returns-clause-told g c =
    told_back g.G.Gate.entered c.args.plan.workers c.args.gates.now.items c.in-Ok.begun.own.items c.in-Ok.begun.others.items
    c.by_rounds-ran.result.1.items c.put_back-ran.result.1.items c.in-Ok.ensures.own c.in-Ok.ensures.others c.requires.gates
    c.by_rounds-ran.result.0.end c.put_back-ran.result.0.end c.put_back-ran.ensures.end c.put_back-ran.ensures.gates c.by_rounds-ran.ensures.all
    (map entry_view c.by_rounds-ran.result.0.journal.items) (map entry_view c.put_back-ran.result.0.journal.items)
    (ap (λ j. map entry_view j.items) c.put_back-ran.ensures.journal) c.by_rounds-ran.ensures.told

pub returns-clause-others : goal.returns-clause-others
returns-clause-others g c =
    others_back g.G.Gate.entered c.args.plan.workers c.args.gates.now.items c.in-Ok.begun.own.items c.in-Ok.begun.others.items
    c.by_rounds-ran.result.1.items c.put_back-ran.result.1.items c.in-Ok.ensures.own c.in-Ok.ensures.others c.requires.gates
    c.by_rounds-ran.result.0.end c.put_back-ran.result.0.end c.put_back-ran.ensures.end c.put_back-ran.ensures.gates c.by_rounds-ran.ensures.all

pub returns-clause-all : goal.returns-clause-all
returns-clause-all g c =
    all_back g.G.Gate.entered c.args.plan.workers c.args.gates.now.items c.in-Ok.begun.own.items c.in-Ok.begun.others.items
    c.by_rounds-ran.result.1.items c.put_back-ran.result.1.items c.in-Ok.ensures.own c.in-Ok.ensures.others c.requires.gates
    c.by_rounds-ran.result.0.end c.put_back-ran.result.0.end c.put_back-ran.ensures.end c.put_back-ran.ensures.gates c.by_rounds-ran.ensures.all
