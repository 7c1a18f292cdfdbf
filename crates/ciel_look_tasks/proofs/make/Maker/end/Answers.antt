-- The order is closed, where it is out.
use Rattle.std.proofs.Common.{◌≡◌, ◌++◌, ap, map, subst, sym, ◌∙◌}
use Rattle.sky_base.specs.ObjectView.{desc_view}
use Rattle.ciel_look_told.specs.View.{outcome_view}
use Rattle.ciel_look_tasks.specs.ObjectPlaces.{placed}
use Rattle.ciel_look_tasks.specs.Objects.{put_at}
use Rattle.ciel_look_tasks.specs.Orders as order
use Rattle.ciel_look_tasks.specs.ReportView.{TellsOutputs, makes_view, takes_view}
use Rattle.ciel_look_tasks.specs.Reports.{objects_made, report_copied, report_made}
use Rattle.ciel_look_tasks.specs.View.{orders_view}
use Rattle.ciel_look_tasks.proofs.HappenedSteps.{ended_nothing, ended_pushed}
use Rattle.ciel_look_tasks.proofs.ObjectSteps.{placed_ended, placed_nothing}
use Rattle.ciel_look_tasks.proofs.ReportSteps.{made_ended, said_nothing, took_ended}
use Rattle.ciel_look_tasks.proofs.make.Maker.end.Goals as goal

pub returns-in_default-clause-orders : goal.returns-in_default-clause-orders
returns-in_default-clause-orders c = sym (c.in_default.ensures.order (outcome_view c.args.ended.how))

pub returns-clause-orders : goal.returns-clause-orders
returns-clause-orders c =
    let o = c.in-Some.ensures.order in
    c.close.ensures.orders o.0 order.out o.1 ∙ sym (o.2 (outcome_view c.args.ended.how))

pub returns-in_default-clause-happened : goal.returns-in_default-clause-happened
returns-in_default-clause-happened c =
    let m = c.args.self.now in
    ended_nothing m.happened.items c.args.ended.number (orders_view m.starts.runs.items) c.in_default.ensures.place

pub returns-clause-happened : goal.returns-clause-happened
returns-clause-happened c =
    let m = c.args.self.now in
    ended_pushed m.happened.items _ c.in-Some.held.run c.args.ended.number (orders_view m.starts.runs.items) c.in_ok-push.ensures.pushed
    c.in-Some.ensures.place

pub returns-in_default-clause-took : goal.returns-in_default-clause-took
returns-in_default-clause-took c =
    let m = c.args.self.now in
    let e = c.args.ended in
    λ ds. said_nothing report_copied m.book.short ds (orders_view m.starts.runs.items) e.copied.items (outcome_view e.how) e.number
    (takes_view m.starts.runs.items) c.in_default.ensures.place

pub returns-clause-took : goal.returns-clause-took
returns-clause-took c =
    let m = c.args.self.now in
    let e = c.args.ended in
    let o = c.in-Some.ensures.order in
    λ ds. took_ended m.book.short ds m.starts.runs.items e.copied.items (outcome_view e.how) e.number c.in-Some.held.run o.0 _ c.in-Some.ensures.place o.1
    c.close.ensures.took

pub returns-in_default-clause-outputs : goal.returns-in_default-clause-outputs
returns-in_default-clause-outputs c =
    let m = c.args.self.now in
    let e = c.args.ended in
    λ ds h. said_nothing report_made m.book.short (ds ++ map desc_view e.spawned.items) (orders_view m.starts.runs.items) e.copied.items
    (outcome_view e.how) e.number (makes_view m.starts.runs.items) c.in_default.ensures.place

pub returns-clause-outputs : goal.returns-clause-outputs
returns-clause-outputs c =
    let m = c.args.self.now in
    let e = c.args.ended in
    let o = c.in-Some.ensures.order in
    let held = c.in-Some.held in
    let b = c.learn_all.new.self in
    λ ds h. made_ended m.book.short (ds ++ map desc_view e.spawned.items) m.starts.runs.items e.copied.items c.in_ok-made.made.items
    (outcome_view e.how) e.number held.run o.0 held.worker held.id _ c.in-Some.ensures.place o.1 c.in-Some.ensures.start
    (subst (λ s. TellsOutputs s b.outputs (ds ++ map desc_view e.spawned.items)
    → c.in_ok-made.made.items ≡ objects_made s (ds ++ map desc_view e.spawned.items) held.id (outcome_view e.how)) c.learn_all.ensures.short
    (c.in_ok-made.ensures.made (ds ++ map desc_view e.spawned.items)) (c.in_ok-learn_all.ensures.outputs ds h))
    c.close.ensures.made

pub returns-in_default-clause-places : goal.returns-in_default-clause-places
returns-in_default-clause-places c =
    let m = c.args.self.now in
    let e = c.args.ended in
    λ ds h. placed_nothing m.places.at m.book.short (ds ++ map desc_view e.spawned.items) (orders_view m.starts.runs.items) e.copied.items
    (outcome_view e.how) e.number c.in_default.ensures.place

pub returns-clause-places : goal.returns-clause-places
returns-clause-places c =
    let m = c.args.self.now in
    let e = c.args.ended in
    let o = c.in-Some.ensures.order in
    let held = c.in-Some.held in
    let b = c.learn_all.new.self in
    λ ds h. placed_ended m.places.at c.put_all.new.places.at c.copy_all.new.places.at m.book.short (ds ++ map desc_view e.spawned.items) m.starts.runs.items
    e.copied.items c.in_ok-made.made.items (outcome_view e.how) e.number held.run o.0 held.worker held.id c.in-Some.ensures.place o.1
    c.in-Some.ensures.start
    (subst (λ s. TellsOutputs s b.outputs (ds ++ map desc_view e.spawned.items)
    → c.in_ok-made.made.items ≡ objects_made s (ds ++ map desc_view e.spawned.items) held.id (outcome_view e.how)) c.learn_all.ensures.short
    (c.in_ok-made.ensures.made (ds ++ map desc_view e.spawned.items)) (c.in_ok-learn_all.ensures.outputs ds h))
    (λ n. c.in_ok-put_all.ensures.put n ∙ ap (λ ns. placed m.places.at n ++ put_at held.worker ns n) c.as_slice.ensures.value)
    (λ n. c.in_ok-copy_all.ensures.put n ∙ ap (λ ns. placed c.put_all.new.places.at n ++ put_at held.worker ns n) c.as_slice-2.ensures.value)
