-- For which task and wait a state stands, and at which wait a task stops next.
use Rattle.std.specs.Prelude.{◌≡◌, ℕ, List, Option, Some, None}
use Rattle.sky_base.specs.Val as v
use Rattle.sky_base.specs.Val.{call}
use Rattle.sky_base.specs.Name.{low_vals, low_pairs, name}
use Rattle.sky_base.specs.Tree.{Script}
use Rattle.sky_base.specs.See.{Vals, Pairs, Desc, Job, Around, main_call}
use Rattle.sky_base.specs.Needed.{Task, State, StandsAt}
use Rattle.sky_base_law.specs.NamesLaws.{Tag, no_name}
use Rattle.sky_base_law.specs.Tasks.{NextWait, NextEnd}
use Rattle.sky_state.specs.Stand.{Stand, low_state}

module _ (job : Job) (around : Around) where
  -- the state is that of the task at its j-th wait, with each description replaced by its name; at 0, that at its start. An
  -- executor task has no state
  abbrev pub Stands : Tag → Stand (List ℕ) → Task → ℕ → Type 0
  Stands tag s t j = (a : State) × StandsAt job around t j a × (s ≡ low_state tag a)

  -- the first wait after j that is for some description outside S; none where the task comes to its end before
  abbrev pub Next : (Desc → Type 0) → Task → ℕ → Option ℕ → Type 0
  Next S t j (Some i) = NextWait job around S t j i
  Next S t j None = NextEnd job around S t j

-- whatever gives the names: where a call captured values and has arguments of which these are the names, the state stands for
-- that call at its start
abbrev pub StandsForCall : Script → List ℕ → v.Pairs (List ℕ) → v.Vals (List ℕ) → Stand (List ℕ) → Type 0
StandsForCall sc f caught args s =
    (tag : Tag) (job : Job) (around : Around) (c : Pairs) (vs : Vals) → job.script ≡ sc → caught ≡ low_pairs no_name tag c → args
    ≡ low_vals no_name tag vs → Stands job around tag s (Task.of (call f c vs)) 0

-- whatever gives the names: where this is the name of the main call, the state stands for the root task at its start
abbrev pub StandsForShow : List ℕ → Stand (List ℕ) → Type 0
StandsForShow main s =
    (tag : Tag) (job : Job) (around : Around) → main ≡ name no_name tag main_call → Stands job around tag s Task.show 0
