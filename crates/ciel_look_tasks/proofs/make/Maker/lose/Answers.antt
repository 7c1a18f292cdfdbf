-- A loss more.
use Rattle.std.proofs.Common.{◌≡◌, arith, refl, subst}
use Rattle.ciel_look_tasks.specs.Rows.{AreFiled}
use Rattle.ciel_look_tasks.specs.StackPlaces.{places_where}
use Rattle.ciel_look_tasks.specs.Stacks.{has_stack}
use Rattle.ciel_look_tasks.specs.View.{ids, orders_view, rows, starts_view}
use Rattle.ciel_look_tasks.proofs.CutSteps.{cut_pushed, kept_pushed, numbers_same, runs_same}
use Rattle.ciel_look_tasks.proofs.HappenedSteps.{lost_pushed}
use Rattle.ciel_look_tasks.proofs.ObjectSteps.{objects_pushed}
use Rattle.ciel_look_tasks.proofs.StackSteps.{have_pushed, stacks_pushed}
use Rattle.ciel_look_tasks.proofs.make.Maker.lose.Goals as goal

pub returns-clause-cuts : goal.returns-clause-cuts
returns-clause-cuts c =
    let m = c.args.self.now in
    cut_pushed c.args.worker m.starts.runs.items c.cut.new.self.runs.items m.losses.items _ _ c.in_ok-push.ensures.pushed
    (numbers_same m.starts.runs.items c.cut.new.self.runs.items c.cut.ensures.starts) c.in_ok-runs.ensures.places

pub returns-clause-kept : goal.returns-clause-kept
returns-clause-kept c =
    let m = c.args.self.now in
    kept_pushed c.args.worker m.starts.runs.items c.cut.new.self.runs.items m.losses.items _ _ c.in_ok-push.ensures.pushed
    (runs_same m.starts.runs.items c.cut.new.self.runs.items c.cut.ensures.starts) c.in_ok-runs.ensures.places

pub returns-clause-happened : goal.returns-clause-happened
returns-clause-happened c =
    let m = c.args.self.now in
    lost_pushed m.happened.items _ m.losses.items c.len-loss.result c.in_ok-push-2.ensures.pushed (omega (arith, c.len-loss.ensures, m.losses.ok.0))

pub returns-clause-stacked : goal.returns-clause-stacked
returns-clause-stacked c =
    let m = c.args.self.now in
    let there = subst (λ rs. AreFiled (rows m.roll.tasks.items) (starts_view rs)
    → c.in_ok-stacks.stacks.items ≡ places_where (has_stack c.args.worker (orders_view rs)) 0 (ids m.roll.tasks.items)) c.as_slice.ensures.value
    c.in_ok-stacks.ensures.places in
    λ f. stacks_pushed (ids m.roll.tasks.items) (ids m.roll.tasks.items) (has_stack c.args.worker (orders_view m.starts.runs.items)) m.losses.items _ _ refl
    c.in_ok-push.ensures.pushed (there f)

pub returns-clause-have : goal.returns-clause-have
returns-clause-have c =
    let m = c.args.self.now in
    let there = subst (λ rs. AreFiled (rows m.roll.tasks.items) (starts_view rs)
    → c.in_ok-stacks.stacks.items ≡ places_where (has_stack c.args.worker (orders_view rs)) 0 (ids m.roll.tasks.items)) c.as_slice.ensures.value
    c.in_ok-stacks.ensures.places in
    λ f h. have_pushed (ids m.roll.tasks.items) (ids m.roll.tasks.items) (has_stack c.args.worker (orders_view m.starts.runs.items)) m.losses.items _ _ refl
    c.in_ok-push.ensures.pushed (there f) h

pub returns-clause-objects : goal.returns-clause-objects
returns-clause-objects c = objects_pushed _ c.args.self.now.losses.items _ _ c.in_ok-push.ensures.pushed c.in_ok-objects.ensures.objects
