use Rattle.std.proofs.Common.{rules, subst}
use Rattle.std.specs.Prelude.{IfSome}
use Rattle.sky_base.specs.JobView.{job_view}
use Rattle.ciel_flow_work.specs.Flowing.{IsLedOf}
use Rattle.ciel_flow_work.proofs.OrderAhead.{led_by}
use Rattle.ciel_flow_work.proofs.order.run.Goals as goal

pub lead_order-requires-clause-led : goal.lead_order-requires-clause-led
lead_order-requires-clause-led g c =
    let ins = (job_view c.args.shop.now.job).inputs in
    let order = c.args.order.now in
    led_by ins order _ _ _ _ _ (search rules)
    (subst (λ o. IfSome o (λ p. IsLedOf ins order p.1 p.0)) c.in-Some.is c.requires.led)
