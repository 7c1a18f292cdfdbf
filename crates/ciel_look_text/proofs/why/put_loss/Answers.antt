-- Where it cut an order, or took something.
use Rattle.std.proofs.Common.{◌≡◌, ◌++◌, None, Some, ap, map, sym, refl, ◌∙◌}
use Rattle.ciel_look_tasks.specs.SceneView.{picked, scene_view, taken_view}
use Rattle.ciel_look_tasks.specs.View.{start_view}
use Rattle.ciel_look_text.specs.Text.{text}
use Rattle.ciel_look_text.specs.Why.{cut_said, cut_start, loss_lines}
use Rattle.ciel_look_text.proofs.Telling.{line_put}
use Rattle.ciel_look_text.proofs.why.put_loss.Goals as goal

pub returns-in_ok-put-in-Some : goal.returns-in_ok-put-in-Some
returns-in_ok-put-in-Some c =
    let s = scene_view c.args.scene.now in
    let l = taken_view c.args.scene.now c.args.loss.now in
    let cut = c.in-Some.ensures.cut ∙ ap (λ ps. cut_start c.args.id.now (map start_view (picked c.args.scene.now.runs.items ps))) c.as_slice.ensures.value in
    record {
      lines = line_put c.args.lines.now c.in_ok-line-in-Some.line _ (cut_said l (start_view c.in-Some.run'.now)) (c.in_ok-line-in-Some.ensures.line l refl)
          c.in_ok-put-in-Some.ensures.put ∙ ap (λ o. c.args.lines.now ++ text (loss_lines s c.args.id.now l o)) cut;
    }

pub returns-in_ok-put_took-in-None : goal.returns-in_ok-put_took-in-None
returns-in_ok-put_took-in-None c =
    let s = scene_view c.args.scene.now in
    let l = taken_view c.args.scene.now c.args.loss.now in
    let cut = c.in-None.ensures.cut ∙ ap (λ ps. cut_start c.args.id.now (map start_view (picked c.args.scene.now.runs.items ps))) c.as_slice.ensures.value in
    record { lines = c.in_ok-put_took-in-None.ensures.lines ∙ ap (λ o. c.args.lines.now ++ text (loss_lines s c.args.id.now l o)) cut }
