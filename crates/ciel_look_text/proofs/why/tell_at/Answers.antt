-- If something happened there.
use Rattle.std.proofs.Common.{Some, None, append-nil, ap, flat_map, slice_get, subst, sym, ◌∙◌}
use Rattle.ciel_look_tasks.specs.SceneView.{one_of, scene_view}
use Rattle.ciel_look_tasks.proofs.KnownSteps.{get_is}
use Rattle.ciel_look_text.specs.Now.{after_all}
use Rattle.ciel_look_text.specs.Replays.{event_view, stand_of}
use Rattle.ciel_look_text.specs.Why.{PutsAll}
use Rattle.ciel_look_text.proofs.Telling.{puts_none}
use Rattle.ciel_look_text.proofs.why.tell_at.Goals as goal

pub returns-in_ok-step-in-Some : goal.returns-in_ok-step-in-Some
returns-in_ok-step-in-Some c =
    let s = c.args.scene.now in
    let now = stand_of s c.args.replay.now in
    let there = get_is c.deref.result.now c.args.place (Some c.in-Some.one) c.in-Some.ensures.lookup
    ∙ ap (λ hs. slice_get hs c.args.place) c.deref.ensures.value in
    let one = event_view s c.in-Some.one.now in
    record {
      lines = subst (λ o. PutsAll (scene_view s) now c.args.id.now (flat_map (event_view s) (one_of o)) c.args.lines.now c.put_event.new.lines) there
          (subst (λ es. PutsAll (scene_view s) now c.args.id.now es c.args.lines.now c.put_event.new.lines) (sym (append-nil one))
          c.in_ok-put_event-in-Some.ensures.lines);
      stand = c.in_ok-step-in-Some.ensures.step ∙ ap (λ es. after_all es now) (sym (append-nil one))
          ∙ ap (λ o. after_all (flat_map (event_view s) (one_of o)) now) there;
    }

pub returns-in-None : goal.returns-in-None
returns-in-None c =
    let s = c.args.scene.now in
    let now = stand_of s c.args.replay.now in
    let there = get_is c.deref.result.now c.args.place None c.in-None.ensures.lookup ∙ ap (λ hs. slice_get hs c.args.place) c.deref.ensures.value in
    record {
      lines = subst (λ o. PutsAll (scene_view s) now c.args.id.now (flat_map (event_view s) (one_of o)) c.args.lines.now c.args.lines.now) there
          (puts_none (scene_view s) now c.args.id.now c.args.lines.now);
      stand = ap (λ o. after_all (flat_map (event_view s) (one_of o)) now) there;
    }
