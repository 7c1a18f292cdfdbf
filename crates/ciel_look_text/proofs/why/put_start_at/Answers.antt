-- If there is one.
use Rattle.std.proofs.Common.{Some, None, ap, map, slice_get, subst, ◌∙◌}
use Rattle.ciel_look_tasks.specs.SceneView.{one_of, order_view, scene_view}
use Rattle.ciel_look_tasks.proofs.KnownSteps.{get_is}
use Rattle.ciel_look_text.specs.Now.{began}
use Rattle.ciel_look_text.specs.Replays.{begun_event, stand_of}
use Rattle.ciel_look_text.specs.Why.{PutsAll}
use Rattle.ciel_look_text.proofs.Telling.{puts_none, puts_one}
use Rattle.ciel_look_text.proofs.why.put_start_at.Goals as goal

pub returns-in_ok-put_start-in-Some : goal.returns-in_ok-put_start-in-Some
returns-in_ok-put_start-in-Some c =
    let s = c.args.scene.now in
    let now = stand_of s c.args.replay.now in
    let there = get_is c.deref.result.now c.args.place (Some c.in-Some.run') c.in-Some.ensures.lookup
    ∙ ap (λ rs. slice_get rs c.args.place) c.deref.ensures.value in
    let line = c.in_ok-put_start-in-Some.ensures.line in
    record {
      lines = subst (λ o. PutsAll (scene_view s) now c.args.id.now (map begun_event (one_of o)) c.args.lines.now c.put_start.new.lines) there
          (puts_one (scene_view s) now c.args.id.now (began (order_view c.in-Some.run'.now)) c.args.lines.now c.put_start.new.lines line.0 line.1 line.2);
    }

pub returns-in-None : goal.returns-in-None
returns-in-None c =
    let s = c.args.scene.now in
    let now = stand_of s c.args.replay.now in
    let there = get_is c.deref.result.now c.args.place None c.in-None.ensures.lookup ∙ ap (λ rs. slice_get rs c.args.place) c.deref.ensures.value in
    record {
      lines = subst (λ o. PutsAll (scene_view s) now c.args.id.now (map begun_event (one_of o)) c.args.lines.now c.args.lines.now) there
          (puts_none (scene_view s) now c.args.id.now c.args.lines.now);
    }
