-- What a state that fits asks, in the parts in which it is tested.
use Rattle.std.specs.Prelude.{◌≡◌, ◌≤◌, ◌<◌, ℕ, List, [], ◌∷◌, length}
use Rattle.sky_base.specs.Tree.{Script}
use Rattle.sky_base.specs.Eval.{body_of}
use Rattle.sky_base.specs.Res.{visits, bodies}
use Rattle.sky_base.specs.Read.{Frame, Run}
use Rattle.sky_base_law.specs.Sound.{Sound, SoundVars}
use Rattle.sky_base_law.specs.Tasks.{Each}
use Rattle.sky_state.specs.Table.{IsOpenCall, IsWaiting}
use Rattle.sky_state.specs.Fits.{row_of, OnBody, Last, Before, FitsFrame, FunsOf}
use Rattle.sky_frozen_fits.specs.Entered.{FitTogether}

module _ (sc : Script) where
  abbrev pub EndsInCall : Frame (List ℕ) → Type 0
  EndsInCall f = Last (λ t. IsOpenCall (row_of sc t)) f.todo

  abbrev pub EndsInWait : Frame (List ℕ) → Type 0
  EndsInWait f = Last (λ t. IsWaiting (row_of sc t)) f.todo

  -- the forms under way of a frame, and the values that they keep
  abbrev pub FormsFit : Frame (List ℕ) → Type 0
  FormsFit f = OnBody sc (body_of f.fun sc) f.todo × FitTogether sc f.todo f.stack

  abbrev pub ValuesFit : Frame (List ℕ) → Type 0
  ValuesFit f = SoundVars sc f.vars × Each (Sound sc) f.stack

  -- all that is asked of the frames but of the end of the top one
  pub record Stacked (fs : List (Frame (List ℕ))) : Type 0 where
    pub functions : FunsOf sc fs
    pub frames : Each (FitsFrame sc) fs
    pub calls : Before EndsInCall fs

-- there are 1 to 64 frames
abbrev pub FramesFew : List (Frame (List ℕ)) → Type 0
FramesFew fs = (0 < length fs) × (length fs ≤ bodies)

-- all numbers are within their limits
abbrev pub Few : Run (List ℕ) → Type 0
Few r = FramesFew r.frames × (r.count ≤ visits) × (r.waits ≤ r.count)

-- the first statement of the body at this node is next, and nothing is kept
abbrev pub BodyBegins : ℕ → Frame (List ℕ) → Type 0
BodyBegins n f = (f.todo ≡ record { node = n; step = 0 } ∷ []) × (f.stack ≡ [])
