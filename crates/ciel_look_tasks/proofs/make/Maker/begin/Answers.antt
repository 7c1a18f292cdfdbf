-- The task has a start more.
use Rattle.std.proofs.Common.{◌++◌, ◌∷◌, [], ap, refl, ◌∙◌}
use Rattle.ciel_look_tasks.specs.Heads.{with_heading}
use Rattle.ciel_look_tasks.specs.View.{agains_view, headings, starts_view}
use Rattle.ciel_look_tasks.proofs.AgainSteps.{agains_pushed, origins_next}
use Rattle.ciel_look_tasks.proofs.HappenedSteps.{begun_pushed}
use Rattle.ciel_look_tasks.proofs.ReportSteps.{makes_pushed, takes_pushed}
use Rattle.ciel_look_tasks.proofs.RollSteps.{rows_begun, starts_pushed}
use Rattle.ciel_look_tasks.proofs.RunSteps.{orders_pushed}
use Rattle.ciel_look_tasks.proofs.make.Maker.begin.Goals as goal

pub returns-clause-rows : goal.returns-clause-rows
returns-clause-rows c =
    let m = c.args.self.now in
    rows_begun m.roll.tasks.items c.enter.new.self.tasks.items c.note-2.new.self.tasks.items (starts_view m.starts.runs.items)
    (starts_view c.begin.new.self.runs.items) (c.args.number, (c.args.worker, (c.args.from, c.args.id.now))) c.in_ok-task.task c.in_ok-run.run'
    c.in_ok-task.ensures.rows c.in_ok-task.ensures.place (starts_pushed _ _ _ c.in_ok-run.ensures.added) c.in_ok-run.ensures.place
    c.in_ok-note.ensures.rows

pub returns-clause-headings : goal.returns-clause-headings
returns-clause-headings c =
    c.note-2.ensures.headings ∙ c.in_ok-task.ensures.headings
    ∙ ap (with_heading (headings c.args.self.now.roll.tasks.items) c.args.id.now) c.of_task-known.ensures.place

pub returns-clause-starts : goal.returns-clause-starts
returns-clause-starts c = starts_pushed _ _ _ c.in_ok-run.ensures.added

pub returns-clause-orders : goal.returns-clause-orders
returns-clause-orders c = orders_pushed _ _ _ c.in_ok-run.ensures.added

pub returns-clause-agains : goal.returns-clause-agains
returns-clause-agains c =
    agains_pushed _ _ _ c.in_ok-run.ensures.added
    ∙ ap (λ b. agains_view c.args.self.now.starts.runs.items ++ b ∷ []) c.in_ok-again.ensures.was

pub returns-clause-origins : goal.returns-clause-origins
returns-clause-origins c =
    let m = c.args.self.now in
    origins_next m.origins c.note.new.self (starts_view m.starts.runs.items) (starts_view c.begin.new.self.runs.items)
    (c.args.number, (c.args.worker, (c.args.from, c.args.id.now))) c.in_ok-again.ensures.noted (starts_pushed _ _ _ c.in_ok-run.ensures.added)

pub returns-clause-happened : goal.returns-clause-happened
returns-clause-happened c = begun_pushed c.args.self.now.happened.items _ _ _ c.in_ok-push.ensures.pushed c.in_ok-run.ensures.place

pub returns-clause-took : goal.returns-clause-took
returns-clause-took c = takes_pushed _ _ _ c.in_ok-run.ensures.added refl

pub returns-clause-outputs : goal.returns-clause-outputs
returns-clause-outputs c = makes_pushed _ _ _ c.in_ok-run.ensures.added refl
