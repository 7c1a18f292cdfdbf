-- The story of a log: its records in order, and the losses where they are due.
use Rattle.std.specs.Prelude.{◌≡◌, ◌⊎◌, ◌+◌, ℕ, List, [], ◌∷◌, ◌++◌, Bool, true, false, ◌||◌, cond, Option, Some, None, map, nat_eq}
use Rattle.std.specs.List.{list_any}
use Rattle.std.specs.Ordering.{is_eq, nat_cmp}
use Rattle.sky_base_law.specs.Tasks.{Each}
use Rattle.ciel_journal.specs.Turns.{FirstDue, NothingDue}
use Rattle.ciel_log_records.specs.Records as records
use Rattle.ciel_log_records.specs.Records.{HowEnded}
use Rattle.ciel_log_read.specs.File.{HasRecords, RecordAt}
use Rattle.ciel_log_read.specs.Recorded.{IsRecord, NoRecord, Recorded, dropped, record_bytes, reported, started}
use Rattle.ciel_look_told.specs.Head.{Head, IsHead, head_bytes, losses}
use Rattle.ciel_look_told.specs.Told as told
use Rattle.ciel_look_told.specs.Told.{Told, outcome}

-- What stands after some records: at which worker each order was started that isn't closed, the lost workers, how many reports closed an
-- order, and whether the root task is done
pub record Stand : Type 0 where
  pub worker_of : ℕ → Option ℕ
  pub gone : List ℕ
  pub closes : ℕ
  pub over : Bool

abbrev pub before_all : Stand
before_all = record { worker_of = λ k. None; gone = []; closes = 0; over = false }

-- at a worker that isn't lost
abbrev pub is_here : List ℕ → Option ℕ → Bool
is_here gone None = false
is_here gone (Some w) = cond (list_any (nat_eq w) gone) false true

-- the order of this number is out
abbrev pub is_out : Stand → ℕ → Bool
is_out v k = is_here v.gone (v.worker_of k)

abbrev pub is_shown : HowEnded → Bool
is_shown (records.answered bytes) = true
is_shown (records.failed fault) = true
is_shown how = false

-- ---- what a record changes, and what it tells

abbrev pub with_worker : (ℕ → Option ℕ) → ℕ → Option ℕ → ℕ → Option ℕ
with_worker f k w q = cond (is_eq (nat_cmp k q)) w (f q)

-- an order is out, at this worker
abbrev pub with_open : Stand → ℕ → ℕ → Stand
with_open v k w = record { worker_of = with_worker v.worker_of k (Some w); gone = v.gone; closes = v.closes; over = v.over }

-- an order is closed, by which the root task may be done
abbrev pub closed : Stand → ℕ → Bool → Stand
closed v k shown =
    record { worker_of = with_worker v.worker_of k None; gone = v.gone; closes = v.closes + 1; over = v.over || shown }

abbrev pub after : Stand → Recorded → Stand
after v (started k w from t) = with_open v k w
after v (reported k spawned copied how) = cond (is_out v k) (closed v k (is_shown how)) v
after v (dropped k) = v

abbrev pub tell : Stand → Recorded → Told
tell v (started k w from t) = told.started k w from t
tell v (reported k spawned copied how) = cond (is_out v k) (told.ended k spawned copied (outcome how)) (told.late k)
tell v (dropped k) = told.late k

-- a worker less
abbrev pub lose : Stand → ℕ → Stand
lose v w = record { worker_of = v.worker_of; gone = v.gone ++ w ∷ []; closes = v.closes; over = v.over }

-- ---- the story

module _ (planned : List (ℕ × ℕ)) where
  -- no loss comes there: none is due, or the root task is done
  abbrev pub Rests : Stand → Type 0
  Rests v = (v.over ≡ true) ⊎ NothingDue planned v.closes v.gone

  -- from what stands, these records are told so: a loss where one is due, the first one first; else the next record
  pub data Story : Stand → List Recorded → List Told → Type 0 where
    loses : {v : Stand} {rs : List Recorded} {ts : List Told} (loss w : ℕ) → v.over ≡ false → FirstDue planned v.closes v.gone loss w
        → Story (lose v w) rs ts → Story v rs (told.lost w v.closes ∷ ts)
    tells : {v : Stand} {rs : List Recorded} {ts : List Told} (r : Recorded) → Rests v → Story (after v r) rs ts
        → Story v (r ∷ rs) (tell v r ∷ ts)
    ends : {v : Stand} → Rests v → Story v [] []

-- ---- of a file

-- these stand there, one behind the other, up to the last place
abbrev pub StandUpTo : List ℕ → ℕ → List (List ℕ) → ℕ → Type 0
StandUpTo log at [] end = at ≡ end
StandUpTo log at (bytes ∷ more) end = (next : ℕ) × RecordAt log at bytes next × StandUpTo log next more end

-- a header and records stand there, up to this place
pub record BeginsLog (log : List ℕ) (head : Head) (rs : List Recorded) (end : ℕ) : Type 0 where
  pub good : IsHead head
  pub first : ℕ
  pub header : RecordAt log 0 (head_bytes head) first
  pub whole : Each IsRecord rs
  pub records : StandUpTo log first (map record_bytes rs) end

-- the file is a log's: a header and records, and behind them nothing, or what is cut
abbrev pub IsLog : List ℕ → Head → List Recorded → Type 0
IsLog log head rs = (end : ℕ) × BeginsLog log head rs end × HasRecords log end []

-- the file isn't a log's: it begins with no header, or behind whole records stands one that is none
pub data NotLog (log : List ℕ) : ℕ → Type 0 where
  no_header : ((head : Head) (next : ℕ) → IsHead head → RecordAt log 0 (head_bytes head) next → ⊥) → NotLog log 0
  no_record : (head : Head) (rs : List Recorded) (at : ℕ) → BeginsLog log head rs at
      → (bytes : List ℕ) (next : ℕ) → RecordAt log at bytes next → NoRecord bytes → NotLog log at

-- what the file tells
abbrev pub Tells : List ℕ → Head → List Told → Type 0
Tells log head ts = (rs : List Recorded) × IsLog log head rs × Story (losses head) before_all rs ts
