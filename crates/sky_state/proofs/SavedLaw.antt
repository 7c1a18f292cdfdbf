-- The stack of forms that follow each other fits the script, and so it does over names.
use Rattle.std.proofs.Common.{◌≡◌, ℕ, ◌≤◌, ◌<◌, ◌⊎◌, inl, inr, List, [], ◌∷◌, map, length, refl, sym, ap, ◌∙◌, subst, arith}
use Rattle.std.proofs.lemmas.List.{length-map}
use Rattle.sky_base.specs.Val.{Desc}
use Rattle.sky_base.specs.Name.{low}
use Rattle.sky_base.specs.Tree.{Script}
use Rattle.sky_base.specs.Res.{bodies, visits}
use Rattle.sky_base.specs.Eval.{body_of}
use Rattle.sky_base.specs.Read.{Halt, Frame, Run, run_of_halt}
use Rattle.sky_base_law.specs.Lower.{low_frame, low_run}
use Rattle.sky_base_law.specs.Nodes.{node_at}
use Rattle.sky_base_law.specs.Sound.{IsFun, SoundFrame}
use Rattle.sky_base_law.specs.Tasks.{Each}
use Rattle.sky_state.specs.Fits.{Last, Before, row_of, FitsFrame, FunsOf, IsStart, FitsRun}
use Rattle.sky_state.specs.Table.{IsOpenCall, IsWaiting}
use Rattle.sky_state.specs.Chained.{body_places, Chained}
use Rattle.sky_base_law.proofs.SoundLow.{vars_low, stack_low}
use Rattle.sky_state.proofs.LowFits.{shares_kinds_low, shares_taken_low}
use Rattle.sky_state.proofs.StackLaw.{FirstIn, Laid, Called, LaidAll, Stacked, stacked, on_body}

module _ {N : Type 0} (sc : Script) where
  frame_fits : (ps : List ℕ) (f : Frame N) → ps ≡ body_places (body_of f.fun sc) → Laid sc ps f → SoundFrame sc f → FitsFrame sc f
  frame_fits ps f e l s =
      record {
        bottom = on_body sc (body_of f.fun sc) f.todo (subst (λ qs. FirstIn sc qs f.todo) e l.first);
        steps = l.steps;
        parts = l.parts;
        as_many = l.as_many;
        kinds = l.kinds;
        taken = l.taken;
        vars = s.0;
        values = s.1;
      }

  called_fit : (fs : List (Frame N)) → Each (Called sc) fs → Each (SoundFrame sc) fs → Each (FitsFrame sc) fs
  called_fit [] h s = tt
  called_fit (f ∷ fs) h s = (frame_fits (body_places (body_of f.fun sc)) f refl h.0.1 s.0, called_fit fs h.1 s.1)

  called_funs : (fs : List (Frame N)) → Each (Called sc) fs → Each (λ (g : Frame N). IsFun sc g.fun) fs
  called_funs [] h = tt
  called_funs (f ∷ fs) h = (h.0.0, called_funs fs h.1)

  frames_fit : (f : List ℕ) (fs : List (Frame N)) → LaidAll sc f (body_places (body_of f sc)) fs → Each (SoundFrame sc) fs → Each (FitsFrame sc) fs
  frames_fit f [] h s = absurd h
  frames_fit f (g ∷ gs) h s =
      (frame_fits (body_places (body_of f sc)) g (ap (λ x. body_places (body_of x sc)) (sym h.0)) h.1 s.0, called_fit gs h.2 s.1)

  funs_of : (f : List ℕ) (fs : List (Frame N)) → LaidAll sc f (body_places (body_of f sc)) fs → Each (SoundFrame sc) fs → FunsOf sc fs
  funs_of f [] h s = absurd h
  funs_of f (g ∷ gs) h s = (s.0.2, called_funs gs h.2)

  some_frame : (f : List ℕ) (fs : List (Frame N)) → LaidAll sc f (body_places (body_of f sc)) fs → 0 < length fs
  some_frame f [] h = absurd h
  some_frame f (g ∷ gs) h = omega arith

  run_fits : (f : List ℕ) (r : Run N) → Stacked sc f (body_places (body_of f sc)) r.frames → Each (SoundFrame sc) r.frames
      → length r.frames ≤ bodies → r.count ≤ visits → 0 < r.waits → r.waits ≤ r.count → FitsRun sc r
  run_fits f r h s few most some waits =
      record {
        some_frame = some_frame f r.frames h.frames;
        few_frames = few;
        count = most;
        waits = waits;
        functions =
            funs_of f r.frames h.frames s;
        frames = frames_fit f r.frames h.frames s;
        calls = h.calls;
        top = inl h.top;
        started =
            (λ _ i. absurd (omega (arith, i.waits, some)), λ _. some);
      }

  -- the stack at a wait whose forms follow each other from the body of a function on, with up to 64 frames, no more visits than are allowed, and
  -- no more waits than visits
  pub saved_fits : (f : List ℕ) (j : ℕ) (h : Halt N) → Chained sc (λ i. node_at sc i) (body_places (body_of f sc)) h.forms
      → Each (SoundFrame sc) (run_of_halt f j h).frames → length (run_of_halt f j h).frames ≤ bodies → h.st.count ≤ visits → 0 < j
      → j ≤ h.st.count → FitsRun sc (run_of_halt f j h)
  saved_fits f j h c s few most some waits =
      run_fits f (run_of_halt f j h) (stacked sc h.forms (body_places (body_of f sc)) f h.st.vars c) s few most some waits

-- ---- over names

module _ {N : Type 0} (spell : N → List ℕ) (tag : Desc (List ℕ) → List ℕ) (sc : Script) where
  abbrev Lowered : Frame N → Frame (List ℕ)
  Lowered f = low_frame spell tag f

  frame_low : (f : Frame N) → FitsFrame sc f → FitsFrame sc (Lowered f)
  frame_low f h =
      record {
        bottom = h.bottom;
        steps = h.steps;
        parts = h.parts;
        as_many = length-map f.stack (low spell tag) ∙ h.as_many;
        kinds =
            shares_kinds_low spell tag (map (row_of sc) f.todo) f.stack h.kinds;
        taken =
            shares_taken_low spell tag (map (row_of sc) f.todo) f.stack h.taken;
        vars = vars_low spell tag sc f.vars h.vars;
        values =
            stack_low spell tag sc f.stack h.values;
      }

  each_low : (P : Frame N → Type 0) (Q : Frame (List ℕ) → Type 0) → ((f : Frame N) → P f → Q (Lowered f)) → (fs : List (Frame N)) → Each P fs
      → Each Q (map Lowered fs)
  each_low P Q g [] h = tt
  each_low P Q g (f ∷ fs) h = (g f h.0, each_low P Q g fs h.1)

  funs_low : (fs : List (Frame N)) → FunsOf sc fs → FunsOf sc (map Lowered fs)
  funs_low [] h = tt
  funs_low (f ∷ fs) h =
      (h.0, each_low (λ (g : Frame N). IsFun sc g.fun) (λ (g : Frame (List ℕ)). IsFun sc g.fun) (λ g i. i) fs h.1)

  last_low : (P : Frame (List ℕ) → Type 0) (fs : List (Frame N)) → Last (λ f. P (Lowered f)) fs → Last P (map Lowered fs)
  last_low P [] h = h
  last_low P (f ∷ []) h = h
  last_low P (f ∷ g ∷ gs) h = last_low P (g ∷ gs) h

  before_low : (P : Frame (List ℕ) → Type 0) (fs : List (Frame N)) → Before (λ f. P (Lowered f)) fs → Before P (map Lowered fs)
  before_low P [] h = tt
  before_low P (f ∷ []) h = tt
  before_low P (f ∷ g ∷ gs) h = (h.0, before_low P (g ∷ gs) h.1)

  -- a state that waits and fits
  pub fits_low : (r : Run N) → FitsRun sc r → 0 < r.waits → FitsRun sc (low_run spell tag r)
  fits_low r h w =
      record {
        some_frame = subst (λ n. 0 < n) (sym (length-map r.frames Lowered)) h.some_frame;
        few_frames =
            subst (λ n. n ≤ bodies) (sym (length-map r.frames Lowered)) h.few_frames;
        count = h.count;
        waits = h.waits;
        functions =
            funs_low r.frames h.functions;
        frames = each_low (FitsFrame sc) (FitsFrame sc) frame_low r.frames h.frames;
        calls =
            before_low (λ g. Last (λ t. IsOpenCall (row_of sc t)) g.todo) r.frames h.calls;
        top = go h.top;
        started =
            (λ _ i. absurd (omega (arith, i.waits, w)), λ _. w);
      }
    where
      go : Last (λ g. Last (λ t. IsWaiting (row_of sc t)) g.todo) r.frames ⊎ IsStart sc r
          → Last (λ g. Last (λ t. IsWaiting (row_of sc t)) g.todo) (map Lowered r.frames) ⊎ IsStart sc (low_run spell tag r)
      go (inl l) = inl (last_low (λ g. Last (λ t. IsWaiting (row_of sc t)) g.todo) r.frames l)
      go (inr s) = absurd (omega (arith, s.waits, w))
