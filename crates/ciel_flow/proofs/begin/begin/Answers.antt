use Rattle.std.proofs.Common.{length, subst, sym, ◌∙◌}
use Rattle.std.specs.Prelude.{IfSome}
use Rattle.sky_base.specs.JobView.{job_view}
use Rattle.ciel_flow.specs.Streaming.{IsSaid}
use Rattle.ciel_flow.proofs.Hints.{leads_same}
use Rattle.ciel_flow.proofs.begin.begin.Goals as goal

pub begin_for-requires-clause-leads : goal.begin_for-requires-clause-leads
begin_for-requires-clause-leads g c =
    let shop = c.args.shop.now in
    let said = subst (λ o. IfSome o (IsSaid g.N.Namer.digest shop)) c.in-Some.is c.requires.hinted in
    leads_same (g.N.Namer.digest shop.namer) shop.shelves (job_view shop.job).script (length (job_view shop.job).inputs) c.args.order.now said.order
    c.in-Some.hint.consumer said.leads (c.is_of.ensures c.if-not-is_of.false ∙ sym said.is)
