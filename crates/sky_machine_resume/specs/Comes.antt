-- What the stack of a run at a wait is, and what it comes to when the wait is answered.
use Rattle.std.specs.Prelude.{◌≡◌, ℕ, suc, ◌<◌, ◌^◌, List, [], ◌∷◌, Some}
use Rattle.sky_base.specs.Val.{Pairs, Desc, no_pairs, null}
use Rattle.sky_base.specs.Name.{digested}
use Rattle.sky_base.specs.Tree.{Script}
use Rattle.sky_base.specs.Res.{Object, End, St}
use Rattle.sky_base.specs.Res as logic
use Rattle.sky_base.specs.Eval.{World, body_of}
use Rattle.sky_base.specs.Read.{Frame, Run, Halt, first_end, first_halt, frames_of, run_of_halt}
use Rattle.sky_base.specs.ObjectView.{object_view}
use Rattle.sky_base_law.specs.Lower.{names_world}
use Rattle.sky_base_law.specs.Nodes.{node_at}
use Rattle.sky_base_law.specs.Opened.{Node}
use Rattle.sky_base_known.specs.Data.{data_of}
use Rattle.sky_state.specs.Table.{row, IsStep}
use Rattle.sky_state.specs.Chained.{body_places, Chained, AllOpened}
use Rattle.sky_state.specs.declared.state.RunState.{RunState}
use Rattle.sky_machine_waits.specs.Waits.{wait_in}
use Rattle.sky_machine_resume.specs.declared.on.Came.{Came}

-- each step of the table has a number that a saved stack can hold, in 32 bits
abbrev pub StepsFit : Script → Type 0
StepsFit sc = (t : Node) (n k : ℕ) → IsStep (row (Some t) n k) → node_at sc n ≡ Some t → k < 2 ^ 32

-- a run over names, where bytes are read as JSON
abbrev pub over_names : (List ℕ → List ℕ) → Script → World (List ℕ)
over_names digest sc = names_world (digested digest) sc data_of

-- a description with its name
abbrev pub with_name : (List ℕ → List ℕ) → Desc (List ℕ) → List ℕ × Desc (List ℕ)
with_name digest d = (digested digest d, d)

-- the stack of a state of the code
abbrev pub run_of : RunState → Run (List ℕ)
run_of r = record { frames = r.frames; count = r.count; waits = r.waits }

-- the function of the bottom frame
abbrev pub bottom_fun : List (Frame (List ℕ)) → List ℕ
bottom_fun [] = []
bottom_fun (f ∷ fs) = f.fun

-- the variables of the bottom frame
abbrev pub bottom_vars : List (Frame (List ℕ)) → Pairs (List ℕ)
bottom_vars [] = no_pairs
bottom_vars (f ∷ fs) = f.vars

-- the stack is that of a call of the function f at this wait: of its forms under way, which follow each other, are each opened by what
-- is saved of them, and wait for what the call waits for
pub record LeftAt (sc : Script) (f : List ℕ) (h : Halt (List ℕ)) (r : Run (List ℕ)) : Type 0 where
  pub frames : frames_of h.forms f h.st.vars ≡ r.frames
  pub count : h.st.count ≡ r.count
  pub follow : Chained sc (λ i. node_at sc i) (body_places (body_of f sc)) h.forms
  pub opened : AllOpened (λ i. node_at sc i) h.forms
  pub wait : wait_in sc h.forms ≡ Some h.wait

module _ {N : Type 0} where
  -- the object of a call that ends so: without `return` it is null
  abbrev pub object_at : End N → Object N
  object_at End.goes = logic.Object.data_of null
  object_at (End.got v) = logic.Object.data_of v
  object_at (End.returned v) = logic.Object.data_of v
  object_at (End.failed f) = logic.Object.fault f

-- the call of f, which stood at its wait j, ends with the object that the run has; or it waits next, one wait further, with the stack of the run's
-- next wait
abbrev pub Comes : List ℕ → ℕ → logic.Res (List ℕ) → Came → Run (List ℕ) → Type 0
Comes f j r (Came.Ended o) new = (s : End (List ℕ) × St (List ℕ)) × (first_end r ≡ Some s) × (object_view o ≡ object_at s.0)
Comes f j r Came.Waits new = (h : Halt (List ℕ)) × (first_halt r ≡ Some h) × (new ≡ run_of_halt f (suc j) h)
