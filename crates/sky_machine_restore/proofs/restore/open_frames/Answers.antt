use Rattle.std.proofs.Common.{◌≡◌, ◌∷◌, IsSome, ap, subst}
use Rattle.sky_machine_entries.specs.Entries.{forms}
use Rattle.sky_state.specs.StandView.{frame_view, frames_view}
use Rattle.sky_machine_restore.specs.Restoring.{call_above, frames_forms}
use Rattle.sky_machine_restore.proofs.Walk.{frame_some, some_behind}
use Rattle.sky_machine_restore.proofs.restore.open_frames.Goals as goal

pub open_frame-requires-clause-opens : goal.open_frame-requires-clause-opens
open_frame-requires-clause-opens c =
    let l = c.loop-frame in
    let sc = c.args.code.now in
    let f = frame_view c.in-Some.frame.now in
    let fs = frames_view c.in-Some.above.now in
    let is : frames_view l.rest.now ≡ f ∷ fs = ap frames_view c.in-Some.ensures.cases.0 in
    let some = some_behind (forms l.entries.items) (frames_forms sc (frames_view l.rest.now)) (frames_forms sc (frames_view c.args.frames.now))
    l.invariant.same c.requires.opens in
    frame_some sc (call_above f.vars fs) f.todo f.stack (frames_forms sc fs) (subst (λ x. IsSome (frames_forms sc x)) is some)
