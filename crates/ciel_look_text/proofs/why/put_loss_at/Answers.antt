-- If there is one.
use Rattle.std.proofs.Common.{Some, None, ap, map, refl, slice_get, subst, ◌∙◌}
use Rattle.ciel_look_tasks.specs.SceneView.{one_of, scene_view, taken_view}
use Rattle.ciel_look_tasks.proofs.KnownSteps.{get_is}
use Rattle.ciel_look_text.specs.Now.{taken}
use Rattle.ciel_look_text.specs.Replays.{stand_of, taken_event}
use Rattle.ciel_look_text.specs.Why.{PutsAll, cut_start, loss_lines}
use Rattle.ciel_look_text.proofs.Telling.{puts_none, puts_one}
use Rattle.ciel_look_text.proofs.why.put_loss_at.Goals as goal

pub returns-in_ok-put_loss-in-Some : goal.returns-in_ok-put_loss-in-Some
returns-in_ok-put_loss-in-Some c =
    let s = c.args.scene.now in
    let now = stand_of s c.args.replay.now in
    let there = get_is c.deref.result.now c.args.place (Some c.in-Some.loss) c.in-Some.ensures.lookup
    ∙ ap (λ ls. slice_get ls c.args.place) c.deref.ensures.value in
    let l = taken_view s c.in-Some.loss.now in
    record {
      lines = subst (λ o. PutsAll (scene_view s) now c.args.id.now (map (taken_event s) (one_of o)) c.args.lines.now c.put_loss.new.lines) there
          (puts_one (scene_view s) now c.args.id.now (taken l) c.args.lines.now c.put_loss.new.lines
          (loss_lines (scene_view s) c.args.id.now l (cut_start c.args.id.now l.cut_starts)) refl c.in_ok-put_loss-in-Some.ensures.lines);
    }

pub returns-in-None : goal.returns-in-None
returns-in-None c =
    let s = c.args.scene.now in
    let now = stand_of s c.args.replay.now in
    let there = get_is c.deref.result.now c.args.place None c.in-None.ensures.lookup ∙ ap (λ ls. slice_get ls c.args.place) c.deref.ensures.value in
    record {
      lines = subst (λ o. PutsAll (scene_view s) now c.args.id.now (map (taken_event s) (one_of o)) c.args.lines.now c.args.lines.now) there
          (puts_none (scene_view s) now c.args.id.now c.args.lines.now);
    }
