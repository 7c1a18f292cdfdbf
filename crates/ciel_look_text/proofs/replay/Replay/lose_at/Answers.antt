-- If there is one.
use Rattle.std.proofs.Common.{Some, None, ap, slice_get, sym, ◌∙◌}
use Rattle.ciel_look_tasks.proofs.KnownSteps.{get_is}
use Rattle.ciel_look_text.specs.Replays.{stand_by, stand_of}
use Rattle.ciel_look_text.proofs.Replaying.{lost_none, lost_one, stand_lost}
use Rattle.ciel_look_text.proofs.replay.Replay.lose_at.Goals as goal

pub returns-in_ok-push-in-Some : goal.returns-in_ok-push-in-Some
returns-in_ok-push-in-Some c =
    let s = c.args.scene.now in
    let r = c.args.self.now in
    let there = get_is c.deref.result.now c.args.place (Some c.in-Some.loss) c.in-Some.ensures.lookup
    ∙ ap (λ ls. slice_get ls c.args.place) c.deref.ensures.value in
    record {
      lost = lost_one s (slice_get s.losses.items c.args.place) c.in-Some.loss.now (stand_of s r)
          (stand_by s.runs.items r.places r.show.items r.others c.push.new.list.items) (sym there)
          (stand_lost s r.places r.others r.show.items r.gone.items c.push.new.list.items c.in-Some.loss.now c.in_ok-push-in-Some.ensures.pushed);
    }

pub returns-in-None : goal.returns-in-None
returns-in-None c =
    let s = c.args.scene.now in
    let there = get_is c.deref.result.now c.args.place None c.in-None.ensures.lookup ∙ ap (λ ls. slice_get ls c.args.place) c.deref.ensures.value in
    record { lost = lost_none s (slice_get s.losses.items c.args.place) (stand_of s c.args.self.now) (sym there) }
