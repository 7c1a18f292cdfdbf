use Rattle.std.proofs.Common.{◌≡◌, [], ◌∷◌, ◌++◌, sym, ap, ◌∙◌, subst}
use Rattle.std.proofs.lemmas.List.{map-append}
use Rattle.sky_state.specs.Fits.{Last}
use Rattle.sky_state.specs.StandView.{frame_view, frames_view}
use Rattle.sky_frozen.specs.Ends.{EndsInWait}
use Rattle.sky_frozen.proofs.Ends.{to_last, of_last}
use Rattle.sky_frozen.proofs.state.top_waits.Goals as goal

pub returns-in-Some-clause-yes : goal.returns-in-Some-clause-yes
returns-in-Some-clause-yes c = λ t.
    let P = EndsInWait c.args.fitting.now in
    let below = c.in-Some.field-0-1.now in
    let top = c.in-Some.top.now in
    let split : frames_view c.args.frames.now ≡ frames_view below ++ frame_view top ∷ [] = ap frames_view c.in-Some.ensures.cases.0
    ∙ map-append frame_view below (top ∷ []) in
    subst (Last P) (sym split) (to_last P (frames_view below) (frame_view top) (c.waits.ensures.yes t))

pub returns-in-Some-clause-no : goal.returns-in-Some-clause-no
returns-in-Some-clause-no c = λ t h.
    let P = EndsInWait c.args.fitting.now in
    let below = c.in-Some.field-0-1.now in
    let top = c.in-Some.top.now in
    let split : frames_view c.args.frames.now ≡ frames_view below ++ frame_view top ∷ [] = ap frames_view c.in-Some.ensures.cases.0
    ∙ map-append frame_view below (top ∷ []) in
    c.waits.ensures.no t (of_last P (frames_view below) (frame_view top) (subst (Last P) split h))
