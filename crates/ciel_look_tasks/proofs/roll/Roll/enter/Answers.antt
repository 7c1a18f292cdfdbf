-- A task that is there has its place; a new one the last.
use Rattle.std.proofs.Common.{◌≡◌, Some, length, ap, arith, sym, ◌∙◌}
use Rattle.ciel_look_tasks.specs.Tasks.{place_in}
use Rattle.ciel_look_tasks.specs.View.{ids}
use Rattle.ciel_look_tasks.proofs.RollSteps.{heading_new, heading_there, ids_length, row_new, row_there}
use Rattle.ciel_look_tasks.proofs.TaskLists.{place_new, with_new, with_there}
use Rattle.ciel_look_tasks.proofs.roll.Roll.enter.Goals as goal

pub returns-in-Some-clause-tasks : goal.returns-in-Some-clause-tasks
returns-in-Some-clause-tasks c =
    sym (with_there c.args.id.now (ids c.args.self.now.tasks.items) c.in-Some.place (sym c.in-Some.ensures.place))

pub returns-in-Some-clause-rows : goal.returns-in-Some-clause-rows
returns-in-Some-clause-rows c = row_there c.args.id.now c.args.self.now.tasks.items c.in-Some.place c.in-Some.ensures.place

pub returns-in_ok-add-in-None-clause-rows : goal.returns-in_ok-add-in-None-clause-rows
returns-in_ok-add-in-None-clause-rows c =
    row_new c.args.id.now c.args.self.now.tasks.items _ _ c.in-None.ensures.place c.new.ensures.items c.in_ok-add-in-None.ensures.rows

pub returns-in_ok-add-in-None-clause-tasks : goal.returns-in_ok-add-in-None-clause-tasks
returns-in_ok-add-in-None-clause-tasks c =
    c.in_ok-add-in-None.ensures.tasks ∙ sym (with_new c.args.id.now (ids c.args.self.now.tasks.items) (sym c.in-None.ensures.place))

pub returns-in_ok-add-in-None-clause-place : goal.returns-in_ok-add-in-None-clause-place
returns-in_ok-add-in-None-clause-place c =
    let t = c.args.self.now in
    let n : c.len-place.result ≡ length t.tasks.items = omega (arith, c.len-place.ensures, t.tasks.ok.0) in
    ap (place_in c.args.id.now) c.in_ok-add-in-None.ensures.tasks ∙ place_new c.args.id.now (ids t.tasks.items) (sym c.in-None.ensures.place)
    ∙ ap Some (sym (ids_length t.tasks.items c.len-place.result n))

pub returns-in-Some-clause-headings : goal.returns-in-Some-clause-headings
returns-in-Some-clause-headings c = heading_there c.args.id.now c.args.known c.args.self.now.tasks.items c.in-Some.place c.in-Some.ensures.place

pub returns-in_ok-add-in-None-clause-headings : goal.returns-in_ok-add-in-None-clause-headings
returns-in_ok-add-in-None-clause-headings c =
    heading_new c.args.id.now c.args.known c.args.self.now.tasks.items _ c.in-None.ensures.place c.in_ok-add-in-None.ensures.headings
