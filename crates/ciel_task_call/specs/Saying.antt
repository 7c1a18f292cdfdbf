-- What goes through the waits of an order says what the job does.
use Rattle.std.specs.Prelude.{◌≡◌, ◌++◌, ℕ, List, map, Option}
use Rattle.sky_base.specs.Val as v
use Rattle.sky_base.specs.Name.{digested}
use Rattle.sky_base.specs.Res.{Object}
use Rattle.sky_base.specs.See.{Desc, Job, Around}
use Rattle.sky_base_law.specs.NamesLaws.{ReadsAlike}
use Rattle.sky_base_law.specs.Refers.{PlainReads}
use Rattle.sky_base_known.specs.Data.{data_of}
use Rattle.sky_state.specs.Stand.{Stand}
use Rattle.sky_base_waves.specs.Seen.{WritesAlike}
use Rattle.ciel_journal.specs.History.{OpenStart}
use Rattle.ciel_journal.specs.Job.{Digest}
use Rattle.ciel_journal_job.specs.Inner.{real_inner}
use Rattle.ciel_task_inputs.specs.JournalWalksLaws.{Begins, CameTo, SaysAnd, WaitsAt, the, lower, end_of}
use Rattle.sky_machine_through.specs.Comes.{with_name}
use Rattle.sky_machine_through.specs.Steps.{Spawned, stop_of}
use Rattle.sky_machine_through.specs.Step.{Step}
use Rattle.sky_machine_through.specs.Through.{PassedAt, Through}

-- what was spawned grew by what was made, each with its name; and a report of what was made and of this step, with the state after it,
-- says of this order what the job does; where nothing that is made clashes, the task truly came to this, and each state from which it
-- went on was the task's at a wait
pub record SaysWhere (digest : List ℕ → List ℕ) (mark : Object (List ℕ) → Digest) (frozen : Stand (List ℕ) → Digest) (job : Job) (around : Around)
    (o : OpenStart Desc) (finds : v.Desc (List ℕ) → Option (Object (List ℕ))) (old new : Stand (List ℕ)) (s : Step) (before after : Spawned)
    (through : Through finds digest job.script old new s before after) : Type 0 where
  pub made : List (v.Desc (List ℕ))
  pub grew : after ≡ before ++ map (with_name digest) made
  pub says : SaysAnd (the (digested digest) mark frozen job around) (real_inner job around) (lower (digested digest) mark frozen job around) o
      (record { number = o.number; spawned = made; end = end_of (digested digest) mark frozen job around o.task (stop_of s new) })
      (CameTo (digested digest) mark frozen job around o.task (stop_of s new)
      × ((q : Stand (List ℕ)) → PassedAt finds digest job.script old new s before after through q
      → WaitsAt (digested digest) mark frozen job around o q))

-- the law: of each job with the script, from a state from which a run of the order may begin
abbrev pub ThroughSays : Type 0
ThroughSays =
    (digest : List ℕ → List ℕ) (mark : Object (List ℕ) → Digest) (frozen : Stand (List ℕ) → Digest) (job : Job) (around : Around)
    → PlainReads around → ReadsAlike (digested digest) around data_of → WritesAlike (digested digest) around
    → (o : OpenStart Desc) (finds : v.Desc (List ℕ) → Option (Object (List ℕ))) (old new : Stand (List ℕ)) (s : Step) (before after : Spawned)
    → Begins (digested digest) mark frozen job around o finds old
    → (through : Through finds digest job.script old new s before after)
    → SaysWhere digest mark frozen job around o finds old new s before after through
