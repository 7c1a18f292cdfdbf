-- Where it is of the task.
use Rattle.std.proofs.Common.{Some, None, ap, cond, map, slice_get, sym, ◌∙◌}
use Rattle.ciel_look_tasks.specs.SceneView.{one_of}
use Rattle.ciel_look_tasks.specs.View.{start_view}
use Rattle.ciel_look_tasks.proofs.KnownSteps.{get_is}
use Rattle.ciel_look_text.specs.Why.{cut_start}
use Rattle.ciel_look_text.proofs.why.of_task.Goals as goal

pub returns-then-is_same : goal.returns-then-is_same
returns-then-is_same c =
    let there = get_is c.deref.result.now c.args.place (Some c.in-Some.run') c.in-Some.ensures.lookup
    ∙ ap (λ rs. slice_get rs c.args.place) c.deref.ensures.value in
    record {
      run = ap (λ b. cond b (Some (start_view c.in-Some.run'.now)) None) (sym c.if-is_same.true ∙ c.is_same.ensures)
          ∙ ap (λ o. cut_start c.args.id.now (map start_view (one_of o))) there;
    }

pub returns-else-is_same : goal.returns-else-is_same
returns-else-is_same c =
    let there = get_is c.deref.result.now c.args.place (Some c.in-Some.run') c.in-Some.ensures.lookup
    ∙ ap (λ rs. slice_get rs c.args.place) c.deref.ensures.value in
    record {
      run = ap (λ b. cond b (Some (start_view c.in-Some.run'.now)) None) (sym c.if-is_same.false ∙ c.is_same.ensures)
          ∙ ap (λ o. cut_start c.args.id.now (map start_view (one_of o))) there;
    }

pub returns-in-None : goal.returns-in-None
returns-in-None c =
    let there = get_is c.deref.result.now c.args.place None c.in-None.ensures.lookup ∙ ap (λ rs. slice_get rs c.args.place) c.deref.ensures.value in
    record { run = ap (λ o. cut_start c.args.id.now (map start_view (one_of o))) there }
