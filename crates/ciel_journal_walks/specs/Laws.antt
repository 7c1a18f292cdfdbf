-- The walk of an order says what the job does.
use Rattle.std.specs.Prelude.{◌≡◌, ◌≤◌, ℕ, List, [], ◌∷◌, map, Option, Some}
use Rattle.sky_base.specs.Val as v
use Rattle.sky_base.specs.Val.{same_text}
use Rattle.sky_base.specs.Name.{held_name, low_desc, name}
use Rattle.sky_base.specs.Needed as n
use Rattle.sky_base.specs.Res.{Object}
use Rattle.sky_base.specs.See as s
use Rattle.sky_base_law.specs.Lower.{low_obj, low_ref}
use Rattle.sky_base_law.specs.NamesLaws.{Tag, no_name}
use Rattle.sky_base_law.specs.Refers.{PlainReads}
use Rattle.sky_base_law.specs.Tasks as t
use Rattle.sky_state.specs.Pending.{held_in, pending_in, stand_wait}
use Rattle.sky_state.specs.Stand.{Stand, low_state}
use Rattle.sky_state.specs.Stands.{Stands}
use Rattle.ciel_journal.specs.History.{OpenStart}
use Rattle.ciel_journal.specs.Job.{Digest, Job, Task, show, of}
use Rattle.ciel_journal.specs.Known.{Inner}
use Rattle.ciel_journal.specs.Lawful.{Given, NextEnd, NextWait, SpawnedTo, SpawnedToEnd}
use Rattle.ciel_journal_job.specs.Inner.{real_inner}
use Rattle.ciel_journal_job.specs.Real.{back, real_job}
use Rattle.ciel_journal_job.specs.Report.{Clear, End, FirstApart, MadeIs, Met, Report, Says, Spawns, StoppedIs, made, missing, stopped}
use Rattle.sky_state_law.specs.Moves.{EndsAs, SeenAs, ShowsAs, Stop, ended, shown, waits}
use Rattle.ciel_journal_walks.specs.Walk.{PassedIn, Walk}

abbrev pub names_of : List (v.Desc (List ℕ)) → List Digest
names_of ds = map held_name ds

-- the report says what the job does, and where nothing that is made clashes, this holds too
module _ {D B : Type 0} (job : Job D) (inner : Inner D) (lower : D → B) (o : OpenStart D) (r : Report B) (Q : Type 0) where
  pub data SaysAnd : Type 0 where
    to_end : (ds : List D) → NextEnd job (Given job o) o.task o.from → SpawnedToEnd job o ds → Spawns job inner lower o ds r.spawned r.end
        → (Clear job inner lower (Met job inner lower o) ds → MadeIs job inner lower o r.end × Q) → SaysAnd
    to_wait : (i : ℕ) (refs ds : List D) → NextWait job (Given job o) o.task o.from i refs → SpawnedTo job o i ds
        → Spawns job inner lower o ds r.spawned r.end
        → (Clear job inner lower (Met job inner lower o) ds → StoppedIs job inner lower o i refs r.end × Q) → SaysAnd

-- marks are of objects and states by names
module _ (tag : Tag) (mark : Object (List ℕ) → Digest) (frozen : Stand (List ℕ) → Digest) (job : s.Job) (around : s.Around) where
  abbrev pub the : Job s.Desc
  the =
      real_job job around (name no_name tag) (λ x. mark (low_obj no_name tag x)) (λ a. frozen (low_state tag a))

  abbrev pub lower : s.Desc → v.Desc (List ℕ)
  lower d = low_desc no_name tag d

  -- what is made at the end: of a call its object, of the root task nothing
  abbrev pub object_made : Task s.Desc → Object (List ℕ) → List (Digest × Digest)
  object_made show o = []
  object_made (of d) o = (name no_name tag d, mark o) ∷ []

  -- what a report says of where a walk stopped, with nothing copied
  abbrev pub end_of : Task s.Desc → Stop → End
  end_of t (ended o) = made (object_made t o) []
  end_of t (shown a) = made [] []
  end_of t (waits r) =
      stopped (stand_wait r) (frozen r) (names_of (pending_in same_text r)) (names_of (held_in same_text r))

  -- the task truly came to this
  abbrev pub CameTo : Task s.Desc → Stop → Type 0
  CameTo t (ended x) = EndsAs tag job around (back t) x
  CameTo t (shown a) = ShowsAs tag job around (back t) a
  CameTo t (waits q) = Stands job around tag q (back t) (stand_wait q)

  module _ (o : OpenStart s.Desc) where
    -- the state is the task's at a wait, not before the order's, all that is waited for there being brought along
    pub record WaitsAt (q : Stand (List ℕ)) : Type 0 where
      pub j : ℕ
      pub from : o.from ≤ j
      pub stands : Stands job around tag q (back o.task) j
      pub ds : List s.Desc
      pub waits : n.WaitOf job around (back o.task) j ds
      pub given : t.Each (Given the o) ds

    module _ (finds : v.Desc (List ℕ) → Option (Object (List ℕ))) where
      -- this is what the order brings along: by its name the object of each description that the state there holds and that was live,
      -- and nothing else
      pub record Brings : Type 0 where
        pub given : (d : s.Desc) → Given the o d → (x : Object (List ℕ)) × SeenAs tag job around d x × (finds (low_ref no_name tag d) ≡ Some x)
        pub only : (d : s.Desc) (x : Object (List ℕ)) → finds (low_ref no_name tag d) ≡ Some x → (e : s.Desc) × Given the o e
            × (name no_name tag e ≡ name no_name tag d)

      -- a run of the order may begin from this state: it is the task's at the order's wait, and no two descriptions that are held or
      -- brought along there share a name
      pub record Begins (r : Stand (List ℕ)) : Type 0 where
        pub brings : Brings
        pub stands : Stands job around tag r (back o.task) o.from
        pub waits : (ds : List s.Desc) × n.WaitOf job around (back o.task) o.from ds
        pub apart : FirstApart the (real_inner job around) o

-- what a walk from there says of the job: the six cases
abbrev pub WalksSay : Type 0
WalksSay =
    (tag : Tag) (mark : Object (List ℕ) → Digest) (frozen : Stand (List ℕ) → Digest) (job : s.Job) (around : s.Around) → PlainReads around
    → (o : OpenStart s.Desc) (finds : v.Desc (List ℕ) → Option (Object (List ℕ))) (r : Stand (List ℕ)) (ms : List (v.Desc (List ℕ))) (e : Stop)
    → Begins tag mark frozen job around o finds r → Walk tag job around (back o.task) finds r ms e
    → Says (the tag mark frozen job around) (real_inner job around) (lower tag mark frozen job around) o
    (record { number = o.number; spawned = ms; end = end_of tag mark frozen job around o.task e })

-- and besides: where nothing that is made clashes, the task truly came to where the walk stopped, and each state from which it went on was
-- the task's at a wait
abbrev pub WalksAreTrue : Type 0
WalksAreTrue =
    (tag : Tag) (mark : Object (List ℕ) → Digest) (frozen : Stand (List ℕ) → Digest) (job : s.Job) (around : s.Around) → PlainReads around
    → (o : OpenStart s.Desc) (finds : v.Desc (List ℕ) → Option (Object (List ℕ))) (r : Stand (List ℕ)) (ms : List (v.Desc (List ℕ))) (e : Stop)
    → Begins tag mark frozen job around o finds r → (walk : Walk tag job around (back o.task) finds r ms e)
    → SaysAnd (the tag mark frozen job around) (real_inner job around) (lower tag mark frozen job around) o
    (record { number = o.number; spawned = ms; end = end_of tag mark frozen job around o.task e })
    (CameTo tag mark frozen job around o.task e
    × ((q : Stand (List ℕ)) → PassedIn tag job around (back o.task) finds r ms e walk q → WaitsAt tag mark frozen job around o q))

-- and where something is missing of what was brought along, all that is waited for at the order's wait, nothing is told of what was made
abbrev pub MissingSays : Type 0
MissingSays =
    (tag : Tag) (mark : Object (List ℕ) → Digest) (frozen : Stand (List ℕ) → Digest) (job : s.Job) (around : s.Around) → PlainReads around
    → (o : OpenStart s.Desc) (finds : v.Desc (List ℕ) → Option (Object (List ℕ))) (r : Stand (List ℕ)) (name : Digest) (loss : ℕ)
    → Begins tag mark frozen job around o finds r
    → ((d : v.Desc (List ℕ)) → t.In d (pending_in same_text r) → (x : Object (List ℕ)) × (finds d ≡ Some x))
    → Says (the tag mark frozen job around) (real_inner job around) (lower tag mark frozen job around) o
    (record { number = o.number; spawned = []; end = missing name loss })
