-- Where it is of the task.
use Rattle.std.proofs.Common.{[], ◌∷◌, append-nil, false, refl, subst, sym, true, ◌∙◌}
use Rattle.ciel_look_tasks.specs.SceneView.{order_view, scene_view}
use Rattle.ciel_look_text.specs.Replays.{stand_of}
use Rattle.ciel_look_text.specs.Why.{SaysStart, why_start}
use Rattle.ciel_look_text.proofs.Telling.{line_put}
use Rattle.ciel_look_text.proofs.why.put_start.Goals as goal

pub returns-then-is_same : goal.returns-then-is_same
returns-then-is_same c =
    let s = scene_view c.args.scene.now in
    let now = stand_of c.args.scene.now c.args.replay.now in
    let o = order_view c.args.run.now in
    let line = c.in_ok-line.ensures.line in
    record {
      line = (
        why_start o line.0 ∷ [],
        subst (λ b. SaysStart s now c.args.id.now o b (why_start o line.0 ∷ [])) (sym c.if-is_same.true ∙ c.is_same.ensures) (line.0, line.1, refl),
        line_put c.args.lines.now c.in_ok-line.line _ (why_start o line.0) line.2 c.in_ok-put.ensures.put,
      );
    }

pub returns : goal.returns
returns c =
    let s = scene_view c.args.scene.now in
    let now = stand_of c.args.scene.now c.args.replay.now in
    let o = order_view c.args.run.now in
    record {
      line = ([], subst (λ b. SaysStart s now c.args.id.now o b []) (sym c.if-is_same.false ∙ c.is_same.ensures) refl, sym (append-nil c.args.lines.now));
    }
