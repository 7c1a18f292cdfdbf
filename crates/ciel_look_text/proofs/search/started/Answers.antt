-- Where it has a place.
use Rattle.std.proofs.Common.{Some, None, ap, cond, sym, ◌∙◌}
use Rattle.sky_base.specs.declared.object.TaskId.{TaskId}
use Rattle.ciel_look_tasks.specs.SceneView.{scene_view}
use Rattle.ciel_look_tasks.specs.Tasks.{place_in}
use Rattle.ciel_look_tasks.specs.View.{ids}
use Rattle.ciel_look_text.specs.Steps.{started_as}
use Rattle.ciel_look_text.proofs.Replaying.{row_place}
use Rattle.ciel_look_text.proofs.search.started.Goals as goal

pub returns-in-Show : goal.returns-in-Show
returns-in-Show c = ap (started_as (scene_view c.args.scene.now).rows) (sym c.in-Show.is)

pub returns-in-Some : goal.returns-in-Some
returns-in-Some c =
    let s = c.args.scene.now in
    ap (λ b. cond b (Some c.in-Of.name) None) (sym (row_place s (TaskId.Of c.in-Of.name) (Some c.in-Some.field-0)
    (c.in-Some.ensures.place ∙ ap (λ t. place_in t (ids s.roll.tasks.items)) c.in-Of.is))) ∙ ap (started_as (scene_view s).rows) (sym c.in-Of.is)

pub returns-in-None : goal.returns-in-None
returns-in-None c =
    let s = c.args.scene.now in
    ap (λ b. cond b (Some c.in-Of.name) None) (sym (row_place s (TaskId.Of c.in-Of.name) None
    (c.in-None.ensures.place ∙ ap (λ t. place_in t (ids s.roll.tasks.items)) c.in-Of.is))) ∙ ap (started_as (scene_view s).rows) (sym c.in-Of.is)
