use Rattle.std.proofs.Common.{◌≡◌, [], IfOk, ◌∙◌, sym, ap, subst}
use Rattle.sky_base.specs.Val.{refs, distinct, same_text}
use Rattle.sky_base.specs.Names.{known_of}
use Rattle.sky_base.specs.View.{view}
use Rattle.sky_state.specs.Pending.{last_refs, top_refs}
use Rattle.sky_state.specs.StandView.{stack_view, frames_view}
use Rattle.sky_state.proofs.Gathers.{last_some, last_none, top_some}
use Rattle.sky_state.proofs.state.last_refs.Goals as goal

pub returns-in-Some-last : goal.returns-in-Some-last
returns-in-Some-last c =
    let fs = c.args.frames.now in
    let vs = c.as_slice.result.now in
    let top : top_refs (frames_view fs) ≡ last_refs (stack_view vs) = top_some fs c.in-Some.top.now (sym c.in-Some.ensures.value)
    ∙ ap last_refs (sym c.as_slice.ensures) in
    let all : refs (view c.in-Some-last.value.now) ≡ top_refs (frames_view fs) =
    sym (top ∙ last_some vs c.in-Some-last.value.now (sym c.in-Some-last.ensures.value)) in
    subst (λ ds. IfOk c.refs.result (λ names. known_of names ≡ distinct same_text ds)) all c.refs.ensures

pub returns-in-None : goal.returns-in-None
returns-in-None c =
    let fs = c.args.frames.now in
    let vs = c.as_slice.result.now in
    let top : top_refs (frames_view fs) ≡ [] = top_some fs c.in-Some.top.now (sym c.in-Some.ensures.value)
    ∙ ap last_refs (sym c.as_slice.ensures) ∙ last_none vs (sym c.in-None.ensures.value) in
    ap known_of c.new-in-None.ensures ∙ ap (distinct same_text) (sym top)
