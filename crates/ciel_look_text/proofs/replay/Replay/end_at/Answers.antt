-- If there is one.
use Rattle.std.proofs.Common.{Some, None, ap, slice_get, sym, ◌∙◌}
use Rattle.ciel_look_tasks.proofs.KnownSteps.{get_is}
use Rattle.ciel_look_text.specs.Replays.{stand_of}
use Rattle.ciel_look_text.proofs.Replaying.{ended_none, ended_one}
use Rattle.ciel_look_text.proofs.replay.Replay.end_at.Goals as goal

pub returns-in_ok-end-in-Some : goal.returns-in_ok-end-in-Some
returns-in_ok-end-in-Some c =
    let s = c.args.scene.now in
    let there = get_is c.deref.result.now c.args.place (Some c.in-Some.run') c.in-Some.ensures.lookup
    ∙ ap (λ rs. slice_get rs c.args.place) c.deref.ensures.value in
    record {
      end = ended_one (slice_get s.runs.items c.args.place) c.in-Some.run'.now (stand_of s c.args.self.now) (stand_of s c.end.new.self) (sym there)
          (c.in_ok-end-in-Some.ensures.end (sym there));
    }

pub returns-in-None : goal.returns-in-None
returns-in-None c =
    let s = c.args.scene.now in
    let there = get_is c.deref.result.now c.args.place None c.in-None.ensures.lookup ∙ ap (λ rs. slice_get rs c.args.place) c.deref.ensures.value in
    record { end = ended_none (slice_get s.runs.items c.args.place) (stand_of s c.args.self.now) (sym there) }
