-- The log that a line goes on from.
use Rattle.std.specs.Prelude.{◌≡◌, ◌⊎◌, ℕ, List, [], ◌∷◌, Option, Some, take}
use Rattle.sky_base.specs.KitView.{Gives}
use Rattle.sky_base.specs.See as s
use Rattle.sky_base.specs.declared.object.TaskId.{TaskId}
use Rattle.ciel_journal.specs.Entries.{Entry}
use Rattle.ciel_log_follows.specs.Begins.{BeginsLog}
use Rattle.ciel_log_file.specs.Whole.{BeginsOther, RecordsTo}
use Rattle.ciel_log_read.specs.File.{RecordAt}
use Rattle.ciel_log_readable.specs.Readable.{BeginsWritten}
use Rattle.ciel_log_refuses.specs.Refusals.{IsBadAt}
use Rattle.ciel_run_load.specs.Line.{Input}
use Rattle.ciel_run_log.specs.declared.why.Why.{Why}
use Rattle.ciel_run_onward.specs.Gates.{ToldSince}
use Rattle.ciel_run_resumed.specs.Resuming.{Replays}
use Rattle.ciel_run_line.specs.Keeping.{header_of}
use Rattle.ciel_run_line.specs.Runs.{digest_of, plan_of}
use Rattle.ciel_words.specs.declared.words.Words.{Words}

module _ (g : Gives) (w : Words) (source : List ℕ) (inputs : List Input) (job : s.Job) where
  -- the bytes begin a log of a run of this job by this line
  abbrev pub IsWrittenLog : List ℕ → Type 0
  IsWrittenLog bytes = BeginsWritten (digest_of w.names) job g (plan_of w) (header_of w source inputs) bytes

  -- so they do, and each of its records can be read
  abbrev pub IsOwnLog : List ℕ → Type 0
  IsOwnLog bytes = BeginsLog (digest_of w.names) job g (plan_of w) (header_of w source inputs) bytes

  -- these are the entries that its whole records tell
  abbrev pub ReplaysLog : List ℕ → List Entry → Type 0
  ReplaysLog bytes entries = Replays (digest_of w.names) job g (plan_of w) (header_of w source inputs) bytes entries

  -- the log is of this job: what an answer of the job asks of the log that was read, where one was
  abbrev pub OwnIfRead : Option (List ℕ) → Type 0
  OwnIfRead log = (bytes : List ℕ) → log ≡ Some bytes → IsOwnLog bytes

-- behind the header of this line and other records a whole record begins at this place, and the records up to and with that one begin no log
-- of a run of this job by this line
pub record IsBadRecord (g : Gives) (w : Words) (source : List ℕ) (inputs : List Input) (job : s.Job) (log : List ℕ) (at : ℕ) : Type 0 where
  pub records : List (List ℕ)
  pub stand : RecordsTo log 0 (header_of w source inputs ∷ records) at
  pub record_bytes : List ℕ
  pub next : ℕ
  pub here : RecordAt log at record_bytes next
  pub cause : IsWrittenLog g w source inputs job (take next log) → ⊥

-- why the log wasn't gone on from: the record there is a bad one; or its header is another one
abbrev pub RefusesLog : Gives → Words → (source : List ℕ) → s.Job → Option (List ℕ) → Why → Type 0
RefusesLog g w source job log (Why.BadLog path at) =
    (bytes : List ℕ) → log ≡ Some bytes → IsBadAt (digest_of w.names) job g (plan_of w) (header_of w source job.inputs) bytes at
RefusesLog g w source job log (Why.OtherJob path) = (bytes : List ℕ) → log ≡ Some bytes → BeginsOther bytes (header_of w source job.inputs)
RefusesLog g w source job log _ = Unit {0}

-- ---- what gates tell

-- of a run that went on from a log: none began; or its journal begins with entries that were replayed, of which this is so, and gates grew by
-- the Starts that those leave open and by those since
abbrev pub OnwardTold : (List Entry → Type 0) → List Entry → (before after : List (Option (List TaskId))) → Type 0
OnwardTold P J before after =
    ((J ≡ []) × (after ≡ before)) ⊎ ((replayed : List Entry) × P replayed × ToldSince replayed J before after)
