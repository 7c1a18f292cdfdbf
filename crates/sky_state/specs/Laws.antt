-- The laws of states, each as one statement over every job.
use Rattle.std.specs.Prelude.{◌≡◌, ℕ, ◌≤◌, ◌<◌, List, map, length, Bool, true, Some, None}
use Rattle.sky_base.specs.Val as v
use Rattle.sky_base.specs.Val.{call, known, same_text, distinct}
use Rattle.sky_base.specs.Name.{low_vals, low_pairs, name}
use Rattle.sky_base.specs.Tree.{Script}
use Rattle.sky_base.specs.Res.{bodies, visits}
use Rattle.sky_base.specs.Eval.{body_of}
use Rattle.sky_base.specs.Read.{Halt, Run, run_of_halt}
use Rattle.sky_base.specs.See.{Vals, Pairs, Desc, Job, Around, main_call}
use Rattle.sky_base.specs.Needed.{Task, WaitOf}
use Rattle.sky_base_law.specs.Lower.{low_ref}
use Rattle.sky_base_law.specs.NamesLaws.{Tag, no_name, NoClash}
use Rattle.sky_base_law.specs.Nodes.{node_at}
use Rattle.sky_base_law.specs.Sound.{SoundFrame, SoundReads, SoundTask}
use Rattle.sky_base_law.specs.Tasks.{Each, HeldAt}
use Rattle.sky_state.specs.Stand.{Stand}
use Rattle.sky_state.specs.Start.{StartsCall}
use Rattle.sky_state.specs.Stands.{Stands, Next}
use Rattle.sky_state.specs.Fits.{Fits, FitsRun}
use Rattle.sky_state.specs.Chained.{body_places, Chained, Formed}
use Rattle.sky_state.specs.Pending.{pending_in, held_in}

module _ (tag : Tag) where
  -- the start of a call over names, of what it captured and its arguments by their names, stands for the call at wait 0
  abbrev pub StartOfCall : Type 0
  StartOfCall =
      (job : Job) (around : Around) (f : List ℕ) (c : Pairs) (vs : Vals) (s : Stand (List ℕ))
      → StartsCall job.script f (low_pairs no_name tag c) (low_vals no_name tag vs) s → Stands job around tag s (Task.of (call f c vs)) 0

  -- the reference to the main call by its name, at wave 0, stands for the root task at wait 0
  abbrev pub StartOfShow : Type 0
  StartOfShow =
      (job : Job) (around : Around) → Stands job around tag (Stand.show_at (v.Val.ref (known (name no_name tag main_call))) 0) Task.show 0

  -- a state that stands for a sound task at a wait fits the script
  abbrev pub StandsFits : Type 0
  StandsFits =
      (job : Job) (around : Around) (s : Stand (List ℕ)) (t : Task) (j : ℕ) (ds : List Desc) → SoundReads job.script around
      → SoundTask job.script t → Stands job around tag s t j → WaitOf job around t j ds → Fits job.script s

  -- it waits for the names of what the task waits for, each once
  abbrev pub StandsPending : Type 0
  StandsPending =
      (job : Job) (around : Around) (s : Stand (List ℕ)) (t : Task) (j : ℕ) (ds : List Desc) → Stands job around tag s t j
      → WaitOf job around t j ds → NoClash tag ds → pending_in same_text s ≡ map (low_ref no_name tag) (distinct (λ a b. true) ds)

  -- it holds the names of what the task holds
  abbrev pub StandsHolds : Type 0
  StandsHolds =
      (job : Job) (around : Around) (s : Stand (List ℕ)) (t : Task) (j : ℕ) (ds : List Desc) → Stands job around tag s t j
      → HeldAt job around t j ds → NoClash tag ds → held_in same_text s ≡ map (low_ref no_name tag) ds

-- what a test says is at hand
abbrev pub AtHand : (Desc → Bool) → Desc → Type 0
AtHand S d = S d ≡ true

-- with what is at hand a task stops next at one wait, or comes to its end
abbrev pub OneNext : Type 0
OneNext =
    (job : Job) (around : Around) (S : Desc → Bool) (t : Task) (j i k : ℕ) → Next job around (AtHand S) t j (Some i)
    → (Next job around (AtHand S) t j (Some k) → i ≡ k) × (Next job around (AtHand S) t j None → ⊥)

-- a stack that fits and waits is that of forms under way that follow each other from the block of a function's body on, each
-- opened by what is saved of it
abbrev pub StackOpens : Type 0
StackOpens =
    (sc : Script) (r : Run (List ℕ)) → FitsRun sc r → 0 < r.waits → (f : List ℕ) × (xs : v.Pairs (List ℕ))
    × Formed sc (body_places (body_of f sc)) f xs r.frames

-- and the stack of such forms at a wait fits, where each value keeps the limits and the numbers of frames, visits and waits do
abbrev pub StackIsSaved : Type 0
StackIsSaved =
    (sc : Script) (f : List ℕ) (j : ℕ) (h : Halt (List ℕ)) → Chained sc (λ i. node_at sc i) (body_places (body_of f sc)) h.forms
    → Each (SoundFrame sc) (run_of_halt f j h).frames → length (run_of_halt f j h).frames ≤ bodies → h.st.count ≤ visits → 0 < j
    → j ≤ h.st.count → FitsRun sc (run_of_halt f j h)
