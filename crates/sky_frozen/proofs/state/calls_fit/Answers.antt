use Rattle.std.proofs.Common.{◌≡◌, [], ◌∷◌, ◌++◌, sym, ap, ◌∙◌, subst}
use Rattle.std.proofs.lemmas.List.{map-append}
use Rattle.sky_state.specs.Fits.{Before}
use Rattle.sky_state.specs.StandView.{frame_view, frames_view}
use Rattle.sky_frozen.specs.Ends.{EndsInCall}
use Rattle.sky_frozen.proofs.Ends.{each_before, before_each}
use Rattle.sky_frozen.proofs.state.calls_fit.Goals as goal

pub returns-in-Some-clause-yes : goal.returns-in-Some-clause-yes
returns-in-Some-clause-yes c = λ t.
    let P = EndsInCall c.args.fitting.now in
    let below = c.in-Some.below.now in
    let top = c.in-Some.field-0-0.now in
    let split : frames_view c.args.frames.now ≡ frames_view below ++ frame_view top ∷ [] = ap frames_view c.in-Some.ensures.cases.0
    ∙ map-append frame_view below (top ∷ []) in
    subst (Before P) (sym split) (each_before P (frames_view below) (frame_view top) (c.all_end_in_calls.ensures.yes t))

pub returns-in-Some-clause-no : goal.returns-in-Some-clause-no
returns-in-Some-clause-no c = λ t h.
    let P = EndsInCall c.args.fitting.now in
    let below = c.in-Some.below.now in
    let top = c.in-Some.field-0-0.now in
    let split : frames_view c.args.frames.now ≡ frames_view below ++ frame_view top ∷ [] = ap frames_view c.in-Some.ensures.cases.0
    ∙ map-append frame_view below (top ∷ []) in
    c.all_end_in_calls.ensures.no t (before_each P (frames_view below) (frame_view top) (subst (Before P) split h))
