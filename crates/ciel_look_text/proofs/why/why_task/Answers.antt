-- One event after another.
use Rattle.std.proofs.Common.{arith, subst}
use Rattle.ciel_look_tasks.specs.SceneView.{scene_view}
use Rattle.ciel_look_text.specs.Now.{nothing_yet}
use Rattle.ciel_look_text.specs.Replays.{event_view, stand_of}
use Rattle.ciel_look_text.specs.Why.{SaysAll}
use Rattle.ciel_look_text.proofs.Replaying.{events_seen}
use Rattle.ciel_look_text.proofs.Telling.{told_next, told_none, told_why}
use Rattle.ciel_look_text.proofs.why.why_task.Goals as goal

pub loop-place-init : goal.loop-place-init
loop-place-init c =
    let s = c.args.scene.now in
    told_none (scene_view s) c.args.id.now (event_view s) s.happened.items (stand_of s c.new-replay.result) c.new-lines.result (c.new-replay.ensures.nothing s)
    c.new-lines.ensures

pub loop-place-preserved : goal.loop-place-preserved
loop-place-preserved c =
    let s = c.args.scene.now in
    let l = c.loop-place in
    told_next (scene_view s) c.args.id.now (event_view s) s.happened.items l.place (stand_of s l.replay) (stand_of s c.tell_at.new.replay) l.lines
    c.tell_at.new.lines l.invariant c.in_ok-tell_at.ensures.lines c.in_ok-tell_at.ensures.stand

pub returns : goal.returns
returns c =
    let s = c.args.scene.now in
    let l = c.loop-place in
    let told = told_why (scene_view s) c.args.id.now (event_view s) s.happened.items l.place (stand_of s l.replay) l.lines
    (omega (arith, c.len-place-end.ensures, s.happened.ok.0)) l.invariant in
    record {
      why = (told.0, subst (λ es. SaysAll (scene_view s) nothing_yet c.args.id.now es told.0) (events_seen s) told.1, told.2);
    }
