-- What contracts see of a desk, of a chair, and of the ends of a channel of bells.
use Rattle.std.specs.Prelude.{◌≡◌, ℕ, ◌+◌, ◌==◌, List, [], ◌∷◌, length, Option, Some, None, IsSome, MatchOption, slice_index_or, slice_set, ◌<◌, ◌⊎◌}
use Rattle.std.specs.Prelude.{if◌then◌else◌}
use Rattle.ciel_crew_lanes.specs.declared.notes.Knows.{Knows}
use Rattle.ciel_crew_lanes.specs.declared.notes.Role.TheVariants.{Master, Worker}
use Rattle.crossbeam_channel.specs.Claims.{Pass, view}
use Rattle.atomic_table.specs.Seated.{TableId}

abbrev pub known : {X V : Type 0} → Pass X V → V
known p = view p

abbrev pub last_of : {I : Type 0} → List I → Option I
last_of [] = None
last_of (x ∷ xs) = elim xs [ [] ↦ Some x | y ∷ ys ↦ last_of xs ]

-- the jobs that were put, the job that is out, and how many were taken back
pub record DeskSeen (I : Type 0) : Type 0 where
  pub put : List I
  pub out : Option I
  pub back : ℕ

-- the jobs that were put, and the job that is out
pub record LaneSeen (I : Type 0) : Type 0 where
  pub put : List I
  pub out : Option I

-- the jobs that were taken, and the outputs taken back
pub record ChairSeen : Type 0 where
  pub taken : ℕ
  pub back : ℕ

-- which channel an end is at, for how many bells there is room, and the bells that it rang or heard, in order
pub record BellsSeen (T : Type 0) : Type 0 where
  pub at : TableId
  pub room : ℕ
  pub bells : List T

module _ {I : Type 0} where
  abbrev pub desk_seen : Knows I → DeskSeen I
  desk_seen v = record { put = v.put; out = (if v.taken == length v.put then None else last_of v.put); back = v.back }

  abbrev pub chair_seen : Knows I → ChairSeen
  chair_seen v = record { taken = v.taken; back = v.back }

  abbrev pub IsDesk : Knows I → Type 0
  IsDesk v = (v.role ≡ Master) × ((v.taken ≡ length v.put) ⊎ (v.taken + 1 ≡ length v.put))

  abbrev pub IsChair : Knows I → Type 0
  IsChair v = (v.role ≡ Worker) × (v.taken ≡ v.given)

module _ {I : Type 0} where
  abbrev pub lane_at : List (LaneSeen I) → ℕ → LaneSeen I
  lane_at lanes k = slice_index_or lanes k record { put = []; out = None }

  -- some lane has a job out
  abbrev pub IsOut : List (LaneSeen I) → Type 0
  IsOut lanes = (k : ℕ) × IsSome (lane_at lanes k).out

  -- the output fits the job that was out at the lane, which is no longer out
  abbrev pub HasTaken : {O : Type 0} → (I → O → Type 0) → List (LaneSeen I) → ℕ → O → List (LaneSeen I) → Type 0
  HasTaken fits before lane output after = (job : I) × (lane < length before) × ((lane_at before lane).out ≡ Some job) × fits job output
      × (after ≡ slice_set before lane record { put = (lane_at before lane).put; out = None })

  -- for each lane with a job out, in order of lanes, the lane and an output that fits the job
  abbrev pub Closes : {O : Type 0} → (I → O → Type 0) → ℕ → List (LaneSeen I) → List (ℕ × O) → Type 0
  Closes fits k [] outs = outs ≡ []
  Closes fits k (l ∷ ls) outs = MatchOption l.out (Closes fits (k + 1) ls outs)
      (λ job. (output : _) × (rest : _) × (outs ≡ (k, output) ∷ rest) × fits job output × Closes fits (k + 1) ls rest)
