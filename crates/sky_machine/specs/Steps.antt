-- What a step of a state means for whatever task the state stands for.
use Rattle.std.specs.Prelude.{◌≡◌, ℕ, List, ◌++◌, map}
use Rattle.sky_base.specs.Val as v
use Rattle.sky_base.specs.Name.{digested}
use Rattle.sky_base.specs.Tree.{Script}
use Rattle.sky_base.specs.Res.{Object}
use Rattle.sky_base.specs.See.{Job, Around}
use Rattle.sky_base.specs.Needed.{Task}
use Rattle.sky_base.specs.ObjectView.{object_view}
use Rattle.sky_base_law.specs.NamesLaws.{ReadsAlike}
use Rattle.sky_base_known.specs.Data.{data_of}
use Rattle.sky_state.specs.Stand.{Stand}
use Rattle.sky_base_waves.specs.Seen.{WritesAlike}
use Rattle.sky_machine_show.specs.Shows.{shown_view}
use Rattle.sky_state_law.specs.Moves as moves
use Rattle.sky_state_law.specs.Moves.{Stop}
use Rattle.sky_machine_resume.specs.Comes.{with_name}
use Rattle.sky_machine_resume.specs.declared.on.Came.{Came}
use Rattle.sky_machine.specs.declared.step.Step.{Step}

-- descriptions with their names
abbrev pub Spawned : Type 0
Spawned = List (List ℕ × v.Desc (List ℕ))

-- the step of what a call came to
abbrev pub step_of : Came → Step
step_of (Came.Ended o) = Step.Ended o
step_of Came.Waits = Step.Waits

-- what a step comes to, with the state after it
abbrev pub stop_of : Step → Stand (List ℕ) → Stop
stop_of (Step.Ended o) new = Stop.ended (object_view o)
stop_of Step.Waits new = Stop.waits new
stop_of (Step.Shown s) new = Stop.shown (shown_view s)

-- what was spawned grew by what was made, each with its name; and whatever task of whatever job with this script the old state stands
-- for at a wait, 0 being its start: where the objects are those of what it waits for there, it came to what the step says, and this is
-- what it makes up to there
pub record Resumed (digest : List ℕ → List ℕ) (sc : Script) (old new : Stand (List ℕ)) (os : List (Object (List ℕ))) (s : Step)
    (before after : Spawned) : Type 0 where
  pub made : List (v.Desc (List ℕ))
  pub grew : after ≡ before ++ map (with_name digest) made
  pub moves : (job : Job) (around : Around) (t : Task)
      → job.script ≡ sc → ReadsAlike (digested digest) around data_of → WritesAlike (digested digest) around
      → moves.Step (digested digest) job around t old os made (stop_of s new)
