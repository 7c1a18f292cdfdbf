-- It stays, or ends with its worker.
use Rattle.std.proofs.Common.{append-nil, false, true, sym, ◌∙◌}
use Rattle.ciel_look_tasks.specs.View.{orders_view}
use Rattle.ciel_look_tasks.proofs.CutSteps.{put_out}
use Rattle.ciel_look_tasks.proofs.OrderPlaces.{cut_next, cut_stays}
use Rattle.ciel_look_tasks.proofs.ReportSteps.{makes_cut, takes_cut}
use Rattle.ciel_look_tasks.proofs.starts.Starts.cut_at.Goals as goal

pub returns-then-is_out_at-clause-orders : goal.returns-then-is_out_at-clause-orders
returns-then-is_out_at-clause-orders c =
    λ os so. cut_next c.args.worker os (orders_view c.args.self.now.runs.items) _ c.args.run so (sym c.is_out_at.ensures ∙ c.if-is_out_at.true)
    c.close.ensures.orders

pub returns-clause-orders : goal.returns-clause-orders
returns-clause-orders c =
    λ os so. cut_stays c.args.worker os (orders_view c.args.self.now.runs.items) c.args.run so (sym c.is_out_at.ensures ∙ c.if-is_out_at.false)

pub returns-then-is_out_at-clause-places : goal.returns-then-is_out_at-clause-places
returns-then-is_out_at-clause-places c =
    λ os so. put_out c.args.worker os (orders_view c.args.self.now.runs.items) c.args.run true c.args.runs.now.items _ so
    (sym c.is_out_at.ensures ∙ c.if-is_out_at.true) c.in_ok-push.ensures.pushed

pub returns-clause-places : goal.returns-clause-places
returns-clause-places c =
    λ os so. put_out c.args.worker os (orders_view c.args.self.now.runs.items) c.args.run false c.args.runs.now.items c.args.runs.now.items so
    (sym c.is_out_at.ensures ∙ c.if-is_out_at.false) (sym (append-nil c.args.runs.now.items))

pub returns-then-is_out_at-clause-took : goal.returns-then-is_out_at-clause-took
returns-then-is_out_at-clause-took c =
    takes_cut c.args.worker c.args.self.now.runs.items _ c.args.run _ (sym c.is_out_at.ensures ∙ c.if-is_out_at.true) c.new.ensures.items
    c.close.ensures.took

pub returns-then-is_out_at-clause-made : goal.returns-then-is_out_at-clause-made
returns-then-is_out_at-clause-made c =
    makes_cut c.args.worker c.args.self.now.runs.items _ c.args.run (sym c.is_out_at.ensures ∙ c.if-is_out_at.true) c.close.ensures.made

pub returns-in_err-push-clause-took : goal.returns-in_err-push-clause-took
returns-in_err-push-clause-took c =
    takes_cut c.args.worker c.args.self.now.runs.items _ c.args.run _ (sym c.is_out_at.ensures ∙ c.if-is_out_at.true) c.new.ensures.items
    c.close.ensures.took

pub returns-in_err-push-clause-made : goal.returns-in_err-push-clause-made
returns-in_err-push-clause-made c =
    makes_cut c.args.worker c.args.self.now.runs.items _ c.args.run (sym c.is_out_at.ensures ∙ c.if-is_out_at.true) c.close.ensures.made
