-- Nothing, an end, or a loss.
use Rattle.std.proofs.Common.{◌≡◌, slice_get, subst, sym}
use Rattle.ciel_look_text.specs.Now.{after_all}
use Rattle.ciel_look_text.specs.Replays.{event_view, stand_of}
use Rattle.ciel_look_text.proofs.Replaying.{begun_same}
use Rattle.ciel_look_text.proofs.replay.Replay.step.Goals as goal

pub returns-in-Begun : goal.returns-in-Begun
returns-in-Begun c =
    let s = c.args.scene.now in
    let old = stand_of s c.args.self.now in
    record { step = subst (λ o. old ≡ after_all (event_view s o) old) (sym c.in-Begun.is) (begun_same (slice_get s.runs.items c.in-Begun.field-0) old) }

pub returns-in_ok-end_at-in-Ended : goal.returns-in_ok-end_at-in-Ended
returns-in_ok-end_at-in-Ended c =
    let s = c.args.scene.now in
    let old = stand_of s c.args.self.now in
    record { step = subst (λ o. stand_of s c.end_at.new.self ≡ after_all (event_view s o) old) (sym c.in-Ended.is) c.in_ok-end_at-in-Ended.ensures.end }

pub returns-in_ok-lose_at-in-Lost : goal.returns-in_ok-lose_at-in-Lost
returns-in_ok-lose_at-in-Lost c =
    let s = c.args.scene.now in
    let old = stand_of s c.args.self.now in
    record { step = subst (λ o. stand_of s c.lose_at.new.self ≡ after_all (event_view s o) old) (sym c.in-Lost.is) c.in_ok-lose_at-in-Lost.ensures.lost }
