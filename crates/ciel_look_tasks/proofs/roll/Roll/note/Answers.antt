-- The tasks stay; one has an order more.
use Rattle.std.proofs.Common.{◌≡◌, false, true, ap, arith, refl, sym, ◌∙◌}
use Rattle.sky_base.specs.declared.object.TaskId.{TaskId}
use Rattle.ciel_look_tasks.specs.Tasks.{place_in}
use Rattle.ciel_look_tasks.specs.declared.scene.Task.{Task}
use Rattle.ciel_look_tasks.proofs.RollSteps.{headings_noted, ids_noted, no_row, rows_noted}
use Rattle.ciel_look_tasks.proofs.roll.Roll.note.Goals as goal

pub invariant_of-self : goal.invariant_of-self
invariant_of-self c =
    let t = c.args.self.now in
    let x : Task = c.in-Some.task.now in
    let y : Task = record { id = x.id; known = x.known; runs = c.push.new.list } in
    let same = ids_noted t.tasks.items c.args.place x y refl c.in-Some.ensures.value in
    record {
      root_found = t.root_found ∙ sym (ap (place_in TaskId.Show) same);
      found = λ n. t.found n ∙ sym (ap (place_in (TaskId.Of n)) same);
    }

pub returns-in_ok-push-in-Some : goal.returns-in_ok-push-in-Some
returns-in_ok-push-in-Some c =
    let ts = c.args.self.now.tasks in
    let x : Task = c.in-Some.task.now in
    let y : Task = record { id = x.id; known = x.known; runs = c.push.new.list } in
    record {
      tasks = ids_noted ts.items c.args.place x y refl c.in-Some.ensures.value;
      headings = headings_noted ts.items c.args.place x y refl c.in-Some.ensures.value;
      rows = rows_noted ts.items c.args.place x y c.args.run (omega (arith, c.in-Some.ensures.variant.0 refl, ts.ok.0)) c.in-Some.ensures.value refl
          c.in_ok-push-in-Some.ensures.pushed;
    }

pub returns-in_err-push-in-Some-clause-tasks : goal.returns-in_err-push-in-Some-clause-tasks
returns-in_err-push-in-Some-clause-tasks c =
    let x : Task = c.in-Some.task.now in
    let y : Task = record { id = x.id; known = x.known; runs = c.push.new.list } in
    ids_noted c.args.self.now.tasks.items c.args.place x y refl c.in-Some.ensures.value

pub returns-in_err-push-in-Some-clause-headings : goal.returns-in_err-push-in-Some-clause-headings
returns-in_err-push-in-Some-clause-headings c =
    let x : Task = c.in-Some.task.now in
    let y : Task = record { id = x.id; known = x.known; runs = c.push.new.list } in
    headings_noted c.args.self.now.tasks.items c.args.place x y refl c.in-Some.ensures.value

pub returns-in-None-clause-rows : goal.returns-in-None-clause-rows
returns-in-None-clause-rows c =
    let ts = c.args.self.now.tasks in
    λ x h. absurd (no_row ts.items c.args.place x h
    (λ less. let some : false ≡ true = c.in-None.ensures.variant.1 (omega (arith, less, ts.ok.0)) in cc))
