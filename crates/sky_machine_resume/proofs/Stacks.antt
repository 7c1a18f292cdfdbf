-- Stacks and the forms under way that they hold.
use Rattle.std.proofs.Common.{◌≡◌, ℕ, List, [], ◌∷◌, ◌++◌, Option, Some, None, refl, sym, ◌∙◌, subst}
use Rattle.sky_base.specs.Val.{Val, Pairs, Desc, list, refs_to}
use Rattle.sky_base.specs.Kept.{Kept}
use Rattle.sky_base.specs.Tree.{Script, SignAt}
use Rattle.sky_base.specs.Res.{Entry, parens_in, part_at, chain_first, chain_more, logic_at, prefix_part, star_wait, postfix_first, index_at, arg_at}
use Rattle.sky_base.specs.Res.{call_open, exec_wait, set_part, add_part, put_index, put_value, return_part, just_part, arm_test, while_test}
use Rattle.sky_base.specs.Res.{while_body, repeat_body, repeat_test, for_list, for_body, block_at, node_of, kept_of, opens, all_of}
use Rattle.sky_base.specs.Read.{Todo, Frame, Run, todo_of, in_front, frame_of, frames_of}
use Rattle.sky_base_law.specs.Opened.{Node}
use Rattle.sky_base_law.specs.Nodes.{node_at}
use Rattle.sky_base_law.specs.Tasks.{Each}
use Rattle.sky_base_law.specs.Sound.{Sound}
use Rattle.sky_state.specs.Fits.{FitsFrame, FitsRun}
use Rattle.sky_machine_waits.specs.Waits.{signs_of, sign_at, star_at, waits_for, wait_at, wait_in}
use Rattle.sky_machine_resume.specs.Comes.{bottom_fun}

module _ (P : Val (List ℕ) → Type 0) where
  abbrev Stacked : List (Frame (List ℕ)) → Type 0
  Stacked fs = Each (λ g. Each P g.stack) fs

  left_each : (vs us : List (Val (List ℕ))) → Each P (vs ++ us) → Each P vs × Each P us
  left_each [] us h = (tt, h)
  left_each (v ∷ vs) us h = let more = left_each vs us h.1 in ((h.0, more.0), more.1)

  front_kept : (t : Todo) (vs : List (Val (List ℕ))) (fs : List (Frame (List ℕ))) → (fs ≡ [] → ⊥) → Stacked (in_front t vs fs) → Each P vs
      × Stacked fs
  front_kept t vs [] some h = absurd (some refl)
  front_kept t vs (f ∷ fs) some h = let parts = left_each vs f.stack h.0 in (parts.0, (parts.1, h.1))

  some_frame : (o : Option (List ℕ × Pairs (List ℕ))) (f : List ℕ) (t : Todo) (vs : List (Val (List ℕ))) (same : List (Frame (List ℕ)))
      (above : List ℕ → List (Frame (List ℕ))) → (same ≡ [] → ⊥) → frame_of o f t vs same above ≡ [] → ⊥
  some_frame None f t vs [] above some e = some refl
  some_frame None f t vs (g ∷ gs) above some e = cc
  some_frame (Some c) f t vs same above some e = cc

  frames_some : (fr : List (Entry (List ℕ))) (f : List ℕ) (xs : Pairs (List ℕ)) → frames_of fr f xs ≡ [] → ⊥
  frames_some [] f xs e = cc
  frames_some (en ∷ fr) f xs e =
      some_frame (opens en) f (todo_of en) (kept_of en) (frames_of fr f xs) (λ g. frames_of fr g xs) (frames_some fr f xs) e

  parts_kept : (o : Option (List ℕ × Pairs (List ℕ))) (f : List ℕ) (t : Todo) (vs : List (Val (List ℕ))) (same : List (Frame (List ℕ)))
      (above : List ℕ → List (Frame (List ℕ))) (Q : Type 0) → (same ≡ [] → ⊥) → (Stacked same → Q) → ((g : List ℕ) → Stacked (above g) → Q)
      → Stacked (frame_of o f t vs same above) → Each P vs × Q
  parts_kept None f t vs same above Q some i j h = let parts = front_kept t vs same some h in (parts.0, i parts.1)
  parts_kept (Some c) f t vs same above Q some i j h = (h.0, j c.0 h.1)

  -- what the forms keep stands on the stacks
  pub forms_kept : (fr : List (Entry (List ℕ))) (f : List ℕ) (xs : Pairs (List ℕ)) → Stacked (frames_of fr f xs) → Each (λ en. Each P (kept_of en)) fr
  forms_kept [] f xs h = tt
  forms_kept (en ∷ fr) f xs h =
      parts_kept (opens en) f (todo_of en) (kept_of en) (frames_of fr f xs) (λ g. frames_of fr g xs) (Each (λ e. Each P (kept_of e)) fr)
      (frames_some fr f xs) (λ k. forms_kept fr f xs k) (λ g k. forms_kept fr g xs k) h

  no_star : (s : Option SignAt) (d : Desc (List ℕ)) (ds : List (Desc (List ℕ))) → star_at s d ≡ Some (all_of ds) → ⊥
  no_star None d ds e = cc
  no_star (Some s) d ds e = cc

  one_waits : (t : Option Node) (en : Entry (List ℕ)) (ds : List (Desc (List ℕ))) → waits_for t en ≡ Some (all_of ds) → Each P (kept_of en)
      → P (list (refs_to ds))
  one_waits t (star_wait n k d ss) ds e h = absurd (no_star (sign_at (signs_of t) k) d ds e)
  one_waits t (exec_wait n es) ds e h = let same : es ≡ ds = cc in subst (λ xs. P (list (refs_to xs))) same h.0
  one_waits t (parens_in n) ds e h = absurd cc
  one_waits t (part_at n k m o p vs es) ds e h = absurd cc
  one_waits t (chain_first n m ls) ds e h = absurd cc
  one_waits t (chain_more n k m o p v ls) ds e h = absurd cc
  one_waits t (logic_at n k m j p ls) ds e h = absurd cc
  one_waits t (prefix_part n ss) ds e h = absurd cc
  one_waits t (postfix_first n m ss) ds e h = absurd cc
  one_waits t (index_at n k m p v ss) ds e h = absurd cc
  one_waits t (arg_at n k m p f vs es ss) ds e h = absurd cc
  one_waits t (call_open n k m f xs ss) ds e h = absurd cc
  one_waits t (set_part n x) ds e h = absurd cc
  one_waits t (add_part n x q p) ds e h = absurd cc
  one_waits t (put_index n m x q p i) ds e h = absurd cc
  one_waits t (put_value n x q p v) ds e h = absurd cc
  one_waits t (return_part n) ds e h = absurd cc
  one_waits t (just_part n) ds e h = absurd cc
  one_waits t (arm_test n k m i p b arms els) ds e h = absurd cc
  one_waits t (while_test n m p i b) ds e h = absurd cc
  one_waits t (while_body n m p i b) ds e h = absurd cc
  one_waits t (repeat_body n m p b i) ds e h = absurd cc
  one_waits t (repeat_test n m p b i) ds e h = absurd cc
  one_waits t (for_list n m p x b) ds e h = absurd cc
  one_waits t (for_body n m i p x vs b) ds e h = absurd cc
  one_waits t (block_at n k m b) ds e h = absurd cc

  all_wait : (at : ℕ → Option Node) (fr : List (Entry (List ℕ))) (ds : List (Desc (List ℕ))) → wait_at at fr ≡ Some (all_of ds)
      → Each (λ en. Each P (kept_of en)) fr → P (list (refs_to ds))
  all_wait at [] ds e h = absurd cc
  all_wait at (en ∷ []) ds e h = one_waits (at (node_of en)) en ds e h.0
  all_wait at (en ∷ x ∷ fr) ds e h = all_wait at (x ∷ fr) ds e h.1

stacks_sound : (sc : Script) (fs : List (Frame (List ℕ))) → Each (FitsFrame sc) fs → Each (λ g. Each (λ v. Kept v) g.stack) fs
stacks_sound sc [] h = tt
stacks_sound sc (f ∷ fs) h = (kept f.stack h.0.values, stacks_sound sc fs h.1)
  where
    kept : (vs : List (Val (List ℕ))) → Each (Sound sc) vs → Each (λ v. Kept v) vs
    kept [] h = tt
    kept (v ∷ vs) h = (h.0.0, kept vs h.1)

-- the list of the references that an `exec` waits for keeps the limits
pub list_kept : (sc : Script) (r : Run (List ℕ)) (fr : List (Entry (List ℕ))) (f : List ℕ) (xs : Pairs (List ℕ)) (ds : List (Desc (List ℕ)))
    → FitsRun sc r → frames_of fr f xs ≡ r.frames → wait_in sc fr ≡ Some (all_of ds) → Kept (list (refs_to ds))
list_kept sc r fr f xs ds fits is e =
    all_wait (λ v. Kept v) (λ i. node_at sc i) fr ds e
    (forms_kept (λ v. Kept v) fr f xs (subst (λ fs. Each (λ g. Each (λ v. Kept v) g.stack) fs) (sym is)
    (stacks_sound sc r.frames fits.frames)))

-- ---- the function of the bottom frame

front_fun : (t : Todo) (vs : List (Val (List ℕ))) (fs : List (Frame (List ℕ))) → bottom_fun (in_front t vs fs) ≡ bottom_fun fs
front_fun t vs [] = refl
front_fun t vs (f ∷ fs) = refl

frame_fun : (o : Option (List ℕ × Pairs (List ℕ))) (f : List ℕ) (t : Todo) (vs : List (Val (List ℕ))) (same : List (Frame (List ℕ)))
    (above : List ℕ → List (Frame (List ℕ))) → bottom_fun same ≡ f → bottom_fun (frame_of o f t vs same above) ≡ f
frame_fun None f t vs same above e = front_fun t vs same ∙ e
frame_fun (Some c) f t vs same above e = refl

pub bottom_of : (fr : List (Entry (List ℕ))) (f : List ℕ) (xs : Pairs (List ℕ)) → bottom_fun (frames_of fr f xs) ≡ f
bottom_of [] f xs = refl
bottom_of (en ∷ fr) f xs = frame_fun (opens en) f (todo_of en) (kept_of en) (frames_of fr f xs) (λ g. frames_of fr g xs) (bottom_of fr f xs)
