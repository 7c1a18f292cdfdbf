-- What goes through waits is a walk.
use Rattle.std.specs.Prelude.{◌≡◌, ◌++◌, ℕ, List, map, Option}
use Rattle.sky_base.specs.Val as v
use Rattle.sky_base.specs.Name.{digested}
use Rattle.sky_base.specs.Tree.{Script}
use Rattle.sky_base.specs.Res.{Object}
use Rattle.sky_base.specs.See.{Job, Around}
use Rattle.sky_base.specs.Needed.{Task}
use Rattle.sky_base_law.specs.NamesLaws.{ReadsAlike}
use Rattle.sky_base_known.specs.Data.{data_of}
use Rattle.sky_state.specs.Stand.{Stand}
use Rattle.sky_base_waves.specs.Seen.{WritesAlike}
use Rattle.ciel_task_inputs.specs.Walk.{PassedIn, Walk}
use Rattle.sky_machine_through.specs.Comes.{with_name}
use Rattle.sky_machine_through.specs.Steps.{Spawned, stop_of}
use Rattle.sky_machine_through.specs.Step.{Step}
use Rattle.sky_machine_through.specs.Through.{PassedAt, Through}

-- what was spawned grew by what was made, each with its name; and for whatever task of whatever job with this script that is a walk
-- from the old state up to this step, with the state after it; it goes on from the same states
pub record Walked (digest : List ℕ → List ℕ) (sc : Script) (finds : v.Desc (List ℕ) → Option (Object (List ℕ)))
    (old new : Stand (List ℕ)) (s : Step) (before after : Spawned) (through : Through finds digest sc old new s before after) : Type 0 where
  pub made : List (v.Desc (List ℕ))
  pub grew : after ≡ before ++ map (with_name digest) made
  pub walk : (job : Job) (around : Around) (t : Task)
      → job.script ≡ sc → ReadsAlike (digested digest) around data_of → WritesAlike (digested digest) around
      → Walk (digested digest) job around t finds old made (stop_of s new)
  pub passes : (job : Job) (around : Around) (t : Task)
      → (is : job.script ≡ sc) (alike : ReadsAlike (digested digest) around data_of) (writes : WritesAlike (digested digest) around)
      → (q : Stand (List ℕ)) → PassedAt finds digest sc old new s before after through q
      → PassedIn (digested digest) job around t finds old made (stop_of s new) (walk job around t is alike writes) q

-- the law
abbrev pub ThroughIsWalk : Type 0
ThroughIsWalk =
    (digest : List ℕ → List ℕ) (sc : Script) (finds : v.Desc (List ℕ) → Option (Object (List ℕ))) (old new : Stand (List ℕ)) (s : Step)
    (before after : Spawned)
    → (through : Through finds digest sc old new s before after) → Walked digest sc finds old new s before after through
