-- A start, an end, or a loss.
use Rattle.std.proofs.Common.{slice_get, subst, sym}
use Rattle.ciel_look_tasks.specs.SceneView.{scene_view}
use Rattle.ciel_look_text.specs.Replays.{event_view, stand_of}
use Rattle.ciel_look_text.specs.Why.{PutsAll}
use Rattle.ciel_look_text.proofs.Telling.{puts_ended}
use Rattle.ciel_look_text.proofs.why.put_event.Goals as goal

pub returns-in_ok-put_start_at-in-Begun : goal.returns-in_ok-put_start_at-in-Begun
returns-in_ok-put_start_at-in-Begun c =
    let s = c.args.scene.now in
    let now = stand_of s c.args.replay.now in
    record {
      lines = subst (λ o. PutsAll (scene_view s) now c.args.id.now (event_view s o) c.args.lines.now c.put_start_at.new.lines) (sym c.in-Begun.is)
          c.in_ok-put_start_at-in-Begun.ensures.lines;
    }

pub returns-in-Ended : goal.returns-in-Ended
returns-in-Ended c =
    let s = c.args.scene.now in
    let now = stand_of s c.args.replay.now in
    record {
      lines = subst (λ o. PutsAll (scene_view s) now c.args.id.now (event_view s o) c.args.lines.now c.args.lines.now) (sym c.in-Ended.is)
          (puts_ended (scene_view s) now c.args.id.now (slice_get s.runs.items c.in-Ended.field-0) c.args.lines.now);
    }

pub returns-in_ok-put_loss_at-in-Lost : goal.returns-in_ok-put_loss_at-in-Lost
returns-in_ok-put_loss_at-in-Lost c =
    let s = c.args.scene.now in
    let now = stand_of s c.args.replay.now in
    record {
      lines = subst (λ o. PutsAll (scene_view s) now c.args.id.now (event_view s o) c.args.lines.now c.put_loss_at.new.lines) (sym c.in-Lost.is)
          c.in_ok-put_loss_at-in-Lost.ensures.lines;
    }
