-- The references of lists of values and of frames, one at a time.
use Rattle.std.proofs.Common.{◌≡◌, ℕ, suc, ◌-◌, List, [], ◌∷◌, ◌++◌, length, slice_get, Some, None, refl, sym, ap, ◌∙◌, append_assoc, append-nil}
use Rattle.std.proofs.Common.{arith}
use Rattle.std.proofs.lemmas.List.{map-append}
use Rattle.std.proofs.lemmas.Grind.{flat_map-append}
use Rattle.sky_base.specs.Val.{Val, Vals, no_vals, val, add_val, refs, vals_refs, pairs_refs}
use Rattle.sky_base.specs.View.{view}
use Rattle.sky_base.specs.declared.value.Value.{Value}
use Rattle.sky_state.specs.declared.frame.Frame.{Frame}
use Rattle.sky_state.specs.Pending.{last_refs, top_refs, stack_refs, frames_refs}
use Rattle.sky_state.specs.StandView.{stack_view, frame_view, frames_view}

pub refs_push : (vs : Vals (List ℕ)) (v : Val (List ℕ)) → vals_refs (add_val vs v) ≡ vals_refs vs ++ refs v
refs_push no_vals v = append-nil (refs v)
refs_push (val u vs) v =
    ap (λ ds. refs u ++ ds) (refs_push vs v) ∙ sym (append_assoc (refs u) (vals_refs vs) (refs v))

pub ruleset pushes = (refs_push, refs_push)

pub stack_push : (vs : List Value) (v : Value) → stack_refs (stack_view (vs ++ v ∷ [])) ≡ stack_refs (stack_view vs) ++ refs (view v)
stack_push vs v =
    ap stack_refs (map-append view vs (v ∷ []))
    ∙ flat_map-append refs (stack_view vs) (view v ∷ [])
    ∙ ap (λ ds. stack_refs (stack_view vs) ++ ds) (append-nil (refs (view v)))

pub frames_push : (fs : List Frame) (f : Frame) → frames_refs (frames_view (fs ++ f ∷ [])) ≡ frames_refs (frames_view fs)
    ++ (pairs_refs f.vars ++ stack_refs f.stack)
frames_push fs f =
    ap frames_refs (map-append frame_view fs (f ∷ []))
    ∙ flat_map-append (λ g. pairs_refs g.vars ++ stack_refs g.stack) (frames_view fs) (frame_view f ∷ [])
    ∙ ap (λ ds. frames_refs (frames_view fs) ++ ds) (append-nil (pairs_refs f.vars ++ stack_refs f.stack))

-- ---- the last of them

pub last_some : (vs : List Value) (v : Value) → slice_get vs (length vs - 1) ≡ Some v → last_refs (stack_view vs) ≡ refs (view v)
last_some [] v e = cc
last_some (u ∷ []) v e = let p : u ≡ v = cc in ap (λ x. refs (view x)) p
last_some (u ∷ w ∷ vs) v e =
    let n : length (u ∷ w ∷ vs) - 1 ≡ suc (length (w ∷ vs) - 1) = omega arith in
    last_some (w ∷ vs) v (sym (ap (slice_get (u ∷ w ∷ vs)) n) ∙ e)

pub last_none : (vs : List Value) → slice_get vs (length vs - 1) ≡ None → last_refs (stack_view vs) ≡ []
last_none [] e = refl
last_none (u ∷ []) e = cc
last_none (u ∷ w ∷ vs) e =
    let n : length (u ∷ w ∷ vs) - 1 ≡ suc (length (w ∷ vs) - 1) = omega arith in
    last_none (w ∷ vs) (sym (ap (slice_get (u ∷ w ∷ vs)) n) ∙ e)

pub top_some : (fs : List Frame) (f : Frame) → slice_get fs (length fs - 1) ≡ Some f → top_refs (frames_view fs) ≡ last_refs f.stack
top_some [] f e = cc
top_some (g ∷ []) f e = let p : g ≡ f = cc in ap (λ (x : Frame). last_refs x.stack) p
top_some (g ∷ h ∷ fs) f e =
    let n : length (g ∷ h ∷ fs) - 1 ≡ suc (length (h ∷ fs) - 1) = omega arith in
    top_some (h ∷ fs) f (sym (ap (slice_get (g ∷ h ∷ fs)) n) ∙ e)

pub top_none : (fs : List Frame) → slice_get fs (length fs - 1) ≡ None → top_refs (frames_view fs) ≡ []
top_none [] e = refl
top_none (g ∷ []) e = cc
top_none (g ∷ h ∷ fs) e =
    let n : length (g ∷ h ∷ fs) - 1 ≡ suc (length (h ∷ fs) - 1) = omega arith in
    top_none (h ∷ fs) (sym (ap (slice_get (g ∷ h ∷ fs)) n) ∙ e)
