-- The logs of a journal: which bytes tell a run's history.
use Rattle.std.specs.Prelude.{◌≡◌, ◌<◌, ◌^◌, ◌+◌, ◌⊎◌, ℕ, false, List, [], ◌∷◌, ◌++◌, Option, Some, None, IfSome, length, map, take}
use Rattle.std.specs.List.{flat_map}
use Rattle.sky_base.specs.KitView.{Gives}
use Rattle.sky_base.specs.Needed as n
use Rattle.sky_base.specs.Res.{Object}
use Rattle.sky_base.specs.See as s
use Rattle.sky_base.specs.Val.{Desc}
use Rattle.sky_frozen_bytes.specs.Bytes.{frozen_bytes}
use Rattle.ciel_io.specs.HeldFiles.{bytes_at}
use Rattle.ciel_io.specs.Kept.{Files}
use Rattle.ciel_journal.specs.Entries.{Entry, journal_of, low_names}
use Rattle.ciel_journal.specs.History.{Event, OpenStart, Plan, done, find_open, lost, missed, names_of, saved, standing, start}
use Rattle.ciel_journal.specs.Job.{IsPrefix, Job, Task, of, show}
use Rattle.ciel_journal.specs.Turns.{Driven}
use Rattle.ciel_journal_job.specs.Real.{back}
use Rattle.ciel_json.specs.Around.{json_around}
use Rattle.ciel_master_board.specs.Follows.{OneByOne}
use Rattle.ciel_task_order.specs.Named.{by_names, object_by_names, shop_job, state_by_names}
use Rattle.ciel_want.specs.History.{task_id}
use Rattle.ciel_log.specs.Logging.{most}
use Rattle.ciel_log.specs.declared.state.LogState.{LogState}
use Rattle.ciel_log_read.specs.Recorded as read
use Rattle.ciel_log_read.specs.Recorded.{CanBeRead, FitsBlock}
use Rattle.ciel_log_records.specs.Records.{HowEnded, dropped_record, in_file, report_record, start_record}

-- a dropped record stands there, behind other records
abbrev pub HasDropped : List ℕ → Type 0
HasDropped bytes =
    (before : List (List ℕ)) × (number : ℕ) × (rest : List ℕ) × (bytes ≡ flat_map in_file before ++ (in_file (dropped_record number) ++ rest))

-- the job of a script over its inputs, with executors that give so, and the digest that gives the names
module _ (digest : List ℕ → List ℕ) (job : s.Job) (gives : Gives) where
  abbrev J : Job s.Desc
  J = shop_job digest job gives

  -- ---- what a report's record has of the model

  -- the object of the description, by names
  abbrev pub IsObjectOf : s.Desc → Object (List ℕ) → Type 0
  IsObjectOf d o = (k : ℕ) × (x : s.Obj) × (s.see job (json_around gives) k d ≡ Some x) × (o ≡ object_by_names digest x)

  -- the bytes of the state of the task at a wait, by names
  abbrev pub IsStackOf : Task s.Desc → ℕ → List ℕ → Type 0
  IsStackOf t j bytes =
      (k : ℕ) × (a : n.State) × (n.stands_at job (json_around gives) k (back t) j ≡ Some a) × (bytes ≡ frozen_bytes (state_by_names digest a))

  -- the answer of the job, or its fault
  abbrev pub IsShown : HowEnded → Type 0
  IsShown (HowEnded.answered text) = s.Means job (json_around gives) (s.Answered.bytes text)
  IsShown (HowEnded.failed fault) = s.Means job (json_around gives) (s.Answered.fault fault)
  IsShown _ = ⊥

  -- how a task came to its end: the root task with what the job means, another one with the objects of its outputs
  abbrev pub IsDone : Task s.Desc → List s.Desc → HowEnded → Type 0
  IsDone show outputs how = IsShown how
  IsDone (of d) outputs how = (objects : List (Object (List ℕ))) × OneByOne IsObjectOf outputs objects × (how ≡ HowEnded.made objects)

  -- ---- the record of an event, behind a history

  module _ (past : List (Event s.Desc)) where
    -- of the open Start with this number
    abbrev Closes : ℕ → (OpenStart s.Desc → Type 0) → Type 0
    Closes k P = (o : OpenStart s.Desc) × (find_open J k (standing J past).orders ≡ Some o) × P o

    abbrev pub RecordOf : Event s.Desc → List ℕ → Type 0
    RecordOf (start k w t from) bytes = bytes ≡ start_record k w from (task_id J t)
    RecordOf (done k made copied spawned) bytes =
        Closes k (λ o. (how : HowEnded) × IsDone o.task (names_of made) how
        × (bytes ≡ report_record k (map (by_names digest) spawned) (low_names J copied) how))
    RecordOf (saved k j mark refs holds spawned) bytes =
        Closes k (λ o. (stack : List ℕ) × IsStackOf o.task j stack
        × (bytes ≡ report_record k (map (by_names digest) spawned) [] (HowEnded.saved j stack)))
    RecordOf (missed k d loss) bytes = bytes ≡ report_record k [] [] (HowEnded.missing (J.name d) loss)
    RecordOf (lost w closes) bytes = ⊥

    -- no Start of this number, which has at most eight bytes, is open there, and the run goes on
    abbrev pub IsFree : ℕ → Type 0
    IsFree k = (k < 2 ^ 64) × (find_open J k (standing J past).orders ≡ None) × ((standing J past).over ≡ false)

    -- a report that can be read where it isn't too long, or a dropped one, of no open Start, before the run's end
    pub data Idle : List ℕ → Type 0 where
      reported : (k : ℕ) → IsFree k → (spawned : List (Desc (List ℕ))) (copied : List (List ℕ)) (how : HowEnded)
          → CanBeRead (read.reported k spawned copied how) → Idle (report_record k spawned copied how)
      dropped : (k : ℕ) → IsFree k → Idle (dropped_record k)

  -- the records of these events behind a history, in order, with idle ones between them; a loss has none
  pub data Records : List (Event s.Desc) → List (Event s.Desc) → List ℕ → Type 0 where
    over : {past : List (Event s.Desc)} → Records past [] []
    idle : {past es : List (Event s.Desc)} {rest : List ℕ} (bytes : List ℕ) → Idle past bytes → Records past es rest
        → Records past es (in_file bytes ++ rest)
    loses : {past es : List (Event s.Desc)} {rest : List ℕ} (w closes : ℕ) → Records (past ++ lost w closes ∷ []) es rest
        → Records past (lost w closes ∷ es) rest
    tells : {past es : List (Event s.Desc)} {rest : List ℕ} (e : Event s.Desc) (bytes : List ℕ) → RecordOf past e bytes
        → Records (past ++ e ∷ []) es rest → Records past (e ∷ es) (in_file bytes ++ rest)

  -- each record has a length of four bytes
  abbrev pub AllFit : {past es : List (Event s.Desc)} {bytes : List ℕ} → Records past es bytes → Type 0
  AllFit over = Unit {0}
  AllFit (idle bytes i more) = FitsBlock bytes × AllFit more
  AllFit (loses w closes more) = AllFit more
  AllFit (tells e bytes r more) = FitsBlock bytes × AllFit more

  -- it is a log of the journal, with this header
  pub record Logs (p : Plan) (header : List ℕ) (journal : List Entry) (bytes : List ℕ) : Type 0 where
    pub history : List (Event s.Desc)
    pub driven : Driven J p history
    pub entries : journal_of J history ≡ journal
    pub rest : List ℕ
    pub records : Records [] history rest
    pub all : bytes ≡ in_file header ++ rest

  -- ---- what a run leaves in its log's file

  -- it begins a log of the journal
  abbrev pub PartOfLog : Plan → List ℕ → List Entry → List ℕ → Type 0
  PartOfLog p header journal bytes = (all : List ℕ) × Logs p header journal all × IsPrefix bytes all

  -- so it does; or the keeper failed, and it does up to the beginning of a dropped record
  abbrev pub WrittenPart : Plan → List ℕ → List Entry → (failed : Type 0) → List ℕ → Type 0
  WrittenPart p header journal failed bytes =
      PartOfLog p header journal bytes
      ⊎ (failed × (before : List ℕ) × (number count : ℕ) × PartOfLog p header journal before
      × (bytes ≡ before ++ take count (in_file (dropped_record number))))

  -- it begins a log of the journal and has so many bytes, and with the next record it would have more than a log has at most: the next one of
  -- this log, or a dropped one
  abbrev pub FullAt : Plan → List ℕ → List Entry → ℕ → List ℕ → Type 0
  FullAt p header journal has bytes =
      PartOfLog p header journal bytes × (has ≡ length bytes) × (next : List ℕ) × (most < has + length (in_file next))
      × (((rest : List ℕ) × Logs p header journal (bytes ++ (in_file next ++ rest))) ⊎ ((number : ℕ) × (next ≡ dropped_record number)))

  -- Where the file at the path was the header alone, of so many bytes, and is told afterwards: with no dropped record in it, it begins a log of
  -- the journal; it is a whole one where the log stands whole; and where the log is full, the next record had no room
  abbrev pub LogWritten : Plan → (path : List ℕ) → (held : ℕ) → (before after : Option Files) → List Entry → LogState → Type 0
  LogWritten p path held before after journal state =
      (header : List ℕ) (was : Files) → before ≡ Some was → bytes_at was path ≡ in_file header
      → IfSome after (λ files. (HasDropped (bytes_at files path) → ⊥) → WrittenPart p header journal (state ≡ LogState.Failed) (bytes_at files path)
      × (state ≡ LogState.Whole → Logs p header journal (bytes_at files path))
      × ((has : ℕ) → state ≡ LogState.Full has → held ≡ length (in_file header) → FullAt p header journal has (bytes_at files path)))
