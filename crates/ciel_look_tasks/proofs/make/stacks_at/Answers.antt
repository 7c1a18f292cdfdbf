-- One task more is looked at.
use Rattle.std.proofs.Common.{◌≤◌, ap, arith, length, ◌∙◌}
use Rattle.std.proofs.lemmas.List.{take_all}
use Rattle.ciel_look_tasks.specs.StackPlaces.{places_where}
use Rattle.ciel_look_tasks.specs.Stacks.{has_stack}
use Rattle.ciel_look_tasks.specs.View.{ids, orders_view}
use Rattle.ciel_look_tasks.proofs.StackSteps.{ids_many, where_more}
use Rattle.ciel_look_tasks.proofs.make.stacks_at.Goals as goal

pub loop-place-preserved : goal.loop-place-preserved
loop-place-preserved c =
    let l = c.loop-place in
    record {
      places = λ f. where_more (has_stack c.args.worker (orders_view c.args.runs.now)) (ids c.args.roll.now.tasks.items) l.place l.stacks.items _
          (l.invariant.places f) (c.in_ok-add_stack.ensures.places f);
    }

pub returns : goal.returns
returns c =
    let l = c.loop-place in
    let ts = c.args.roll.now.tasks in
    let all : length (ids ts.items) ≤ l.place = omega (arith, ids_many ts.items, c.len-place-end.ensures, ts.ok.0) in
    record {
      places = λ f. l.invariant.places f
          ∙ ap (places_where (has_stack c.args.worker (orders_view c.args.runs.now)) 0) (take_all l.place (ids ts.items) all);
    }
