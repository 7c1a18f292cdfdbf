-- What going on so means for the task.
use Rattle.std.specs.Prelude.{◌≡◌, ◌≤◌, ℕ, List, ◌++◌, map, Option, Some}
use Rattle.sky_base.specs.Val as v
use Rattle.sky_base.specs.Name.{digested, low_desc}
use Rattle.sky_base.specs.Tree.{Script}
use Rattle.sky_base.specs.Res.{Object}
use Rattle.sky_base.specs.ObjectView.{object_view}
use Rattle.sky_base.specs.See.{Desc, Job, Around}
use Rattle.sky_base.specs.Needed.{Task, WaitOf}
use Rattle.sky_base_law.specs.Lower.{low_ref}
use Rattle.sky_base_law.specs.NamesLaws.{no_name, NoClash, ReadsAlike}
use Rattle.sky_base_law.specs.Tasks.{In, MadeBetween, MadeAfter, NextWait, NextEnd}
use Rattle.sky_base_known.specs.Data.{data_of}
use Rattle.sky_state.specs.Stand.{Stand}
use Rattle.sky_state.specs.Stands.{Stands}
use Rattle.sky_base_waves.specs.Seen.{WritesAlike}
use Rattle.sky_machine_show.specs.Shows.{shown_view}
use Rattle.sky_state_law.specs.Moves.{SeenAs, EndsAs, ShowsAs, HasWait}
use Rattle.sky_machine.specs.Comes.{with_name}
use Rattle.sky_machine.specs.Steps.{Spawned}
use Rattle.sky_machine.specs.declared.step.Step.{Step}
use Rattle.sky_machine_through.specs.Through.{Through}

module _ (digest : List ℕ → List ℕ) (finds : v.Desc (List ℕ) → Option (Object (List ℕ))) (job : Job) (around : Around) where
  -- by its name an object is found
  abbrev pub IsFound : Desc → Type 0
  IsFound d = (o : Object (List ℕ)) × (finds (low_ref no_name (digested digest) d) ≡ Some o)

  -- no two of these descriptions have one name, and what is found by a name of theirs is what the description is seen as
  pub record Truly (ds : List Desc) : Type 0 where
    pub apart : NoClash (digested digest) ds
    pub seen : (d : Desc) (o : Object (List ℕ)) → In d ds → finds (low_ref no_name (digested digest) d) ≡ Some o
        → SeenAs (digested digest) job around d o

  -- so it is at each wait of the task from j on
  abbrev pub TrulyFrom : Task → ℕ → Type 0
  TrulyFrom t j = (k : ℕ) (ds : List Desc) → j ≤ k → WaitOf job around t k ds → Truly ds

  -- what was spawned grew by these, each with its name
  abbrev pub GrewBy : (ds : List Desc) (before after : Spawned) → Type 0
  GrewBy ds before after = after ≡ before ++ map (with_name digest) (map (low_desc no_name (digested digest)) ds)

  -- from its wait j the task came to its end, with no wait between for anything that isn't found; or to its next wait for something
  -- that isn't found, where the state stands for it; and what was spawned grew by what it makes up to there
  abbrev pub WentOn : Task → ℕ → Step → Stand (List ℕ) → (before after : Spawned) → Type 0
  WentOn t j (Step.Ended o) new before after =
      NextEnd job around IsFound t j × EndsAs (digested digest) job around t (object_view o)
      × ((ds : List Desc) × MadeAfter job around t j ds × GrewBy ds before after)
  WentOn t j Step.Waits new before after =
      (i : ℕ) × NextWait job around IsFound t j i × Stands job around (digested digest) new t i
      × ((ds : List Desc) × MadeBetween job around t j i ds × GrewBy ds before after)
  WentOn t j (Step.Shown s) new before after =
      NextEnd job around IsFound t j × ShowsAs (digested digest) job around t (shown_view s)
      × ((ds : List Desc) × MadeAfter job around t j ds × GrewBy ds before after)

-- whatever task of whatever job with this script the old state stands for at a wait, where from that wait on what is found is true
abbrev pub GoesThrough : (digest : List ℕ → List ℕ) (sc : Script) (finds : v.Desc (List ℕ) → Option (Object (List ℕ))) (old new : Stand (List ℕ))
    (s : Step) (before after : Spawned) → Type 0
GoesThrough digest sc finds old new s before after =
    (job : Job) (around : Around) (t : Task) (j : ℕ)
    → job.script ≡ sc → ReadsAlike (digested digest) around data_of → WritesAlike (digested digest) around
    → Stands job around (digested digest) old t j → HasWait (digested digest) job around t j → TrulyFrom digest finds job around t j
    → WentOn digest finds job around t j s new before after

-- the law: going through is going on so
abbrev pub ThroughGoesOn : Type 0
ThroughGoesOn =
    (digest : List ℕ → List ℕ) (sc : Script) (finds : v.Desc (List ℕ) → Option (Object (List ℕ))) (old new : Stand (List ℕ)) (s : Step)
    (before after : Spawned)
    → Through finds digest sc old new s before after → GoesThrough digest sc finds old new s before after
