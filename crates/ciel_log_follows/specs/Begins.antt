-- Files that begin a log of a journal, whose records can be read.
use Rattle.std.specs.Prelude.{◌≡◌, ◌⊎◌, ℕ, List, [], map}
use Rattle.sky_base.specs.KitView.{Gives}
use Rattle.sky_base.specs.See as s
use Rattle.sky_frozen_bytes.specs.Spelled.{StandSpelled}
use Rattle.ciel_journal.specs.Entries.{Entry, low_names}
use Rattle.ciel_journal.specs.History.{Event, Plan, done, lost, missed, saved, start}
use Rattle.ciel_journal.specs.Job.{IsPrefix, Job}
use Rattle.ciel_log.specs.Logs as logs
use Rattle.ciel_log.specs.Logs.{Idle, Logs, RecordOf, Records}
use Rattle.ciel_log_read.specs.Recorded as read
use Rattle.ciel_log_read.specs.Recorded.{FitsBlock, IsRecord, started}
use Rattle.ciel_log_records.specs.Records.{HowEnded}
use Rattle.ciel_task_order.specs.Named.{by_names, shop_job, state_by_names}
use Rattle.ciel_want.specs.History.{task_id}

-- the job of a script over its inputs, with executors that give so, and the digest that gives the names
module _ (digest : List ℕ → List ℕ) (job : s.Job) (gives : Gives) where
  abbrev J : Job s.Desc
  J = shop_job digest job gives

  -- ---- records that can be read: their numbers fit their bytes, and their names, descriptions, objects and states can be read

  abbrev pub ReadsEvent : (past : List (Event s.Desc)) (e : Event s.Desc) (bytes : List ℕ) → RecordOf digest job gives past e bytes → Type 0
  ReadsEvent past (start k w t from) bytes r = IsRecord (started k w from (task_id J t))
  ReadsEvent past (done k made copied spawned) bytes r =
      IsRecord (read.reported k (map (by_names digest) spawned) (low_names J copied) r.2.0)
  ReadsEvent past (saved k j mark refs holds spawned) bytes r =
      IsRecord (read.reported k (map (by_names digest) spawned) [] (HowEnded.saved j r.2.0)) × StandSpelled (state_by_names digest r.2.1.1)
  ReadsEvent past (missed k d loss) bytes r = IsRecord (read.reported k [] [] (HowEnded.missing (J.name d) loss))
  ReadsEvent past (lost w closes) bytes r = ⊥

  abbrev pub ReadsIdle : (past : List (Event s.Desc)) (bytes : List ℕ) → Idle digest job gives past bytes → Type 0
  ReadsIdle past bytes (logs.reported k free spawned copied how can) = IsRecord (read.reported k spawned copied how)
  ReadsIdle past bytes (logs.dropped k free) = Unit {0}

  -- all of them can be read, and each has a length of four bytes
  abbrev pub AllReadable : {past es : List (Event s.Desc)} {bytes : List ℕ} → Records digest job gives past es bytes → Type 0
  AllReadable logs.over = Unit {0}
  AllReadable {past} (logs.idle bytes i more) = FitsBlock bytes × ReadsIdle past bytes i × AllReadable more
  AllReadable (logs.loses w closes more) = AllReadable more
  AllReadable {past} (logs.tells e bytes r more) = FitsBlock bytes × ReadsEvent past e bytes r × AllReadable more

  -- the file begins such a log of a journal
  pub record BeginsLog (p : Plan) (header bytes : List ℕ) : Type 0 where
    pub journal : List Entry
    pub all : List ℕ
    pub log : Logs digest job gives p header journal all
    pub short : FitsBlock header
    pub read : AllReadable log.records
    pub prefix : IsPrefix bytes all

  -- nothing stands there, and nothing has happened; or it is a whole log of the journal
  abbrev pub IsTold : Plan → List ℕ → List Entry → ℕ → List ℕ → Type 0
  IsTold p header journal whole bytes = ((whole ≡ 0) × (journal ≡ [])) ⊎ Logs digest job gives p header journal bytes
