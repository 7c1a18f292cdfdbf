-- Why a call of the program ends as it does, before anything is written.
use Rattle.std.specs.Prelude.{◌≡◌, ◌≤◌, ℕ, List, [], length, true, false, ◌⊎◌, Option, Some, None, Result, Ok, Err, Contains, IfErr, IfOk}
use Rattle.std.specs.List.{IsDistinct}
use Rattle.sky_base.specs.KitView.{Gives}
use Rattle.sky_base.specs.See as s
use Rattle.sky_base.specs.See.{Answered}
use Rattle.sky_base.specs.Val.{same_text}
use Rattle.sky_base.specs.declared.object.Desc1.{Desc1}
use Rattle.sky_base.specs.declared.object.Named.{Named}
use Rattle.ciel_journal.specs.Entries.{Entry}
use Rattle.ciel_journal.specs.Job.{Digest}
use Rattle.ciel_journal.specs.Journals.{CircleOf, DrivenJournal}
use Rattle.ciel_log_file.specs.Whole.{BeginsOther}
use Rattle.ciel_memo_file.specs.File.{BadAt, most_of_a_file}
use Rattle.ciel_run_load.specs.Found.{Holds, IsOver, IsTooLong, PassesIfTold}
use Rattle.ciel_run_load.specs.Line as files
use Rattle.ciel_run_load.specs.Line.{Input}
use Rattle.ciel_run_load.specs.Syntax.{IsSyntaxFault}
use Rattle.ciel_master_board.specs.Ends.{AllAreLost, ClashOf, OverflowOf}
use Rattle.ciel_words.specs.declared.words.Words.{Words}
use Rattle.sky_plain.specs.Needs.{Chain, MakesMany}
use Rattle.ciel_run_line.specs.Given.{GivesOf, HasMemo}
use Rattle.ciel_run_line.specs.Keeping.{header_of}
use Rattle.ciel_run_line.specs.Line.{FitsIn, OfJobFiles, OfLine, OfSource, SourceFits, Surely, files_of, paths_of}
use Rattle.ciel_run_line.specs.Resuming.{IsBadRecord}
use Rattle.ciel_run_line.specs.Runs.{RootEnds, log_path, plan_of, run_of, told_of}
use Rattle.ciel_run_line.specs.Source.{IsSource, OfJob, around}
use Rattle.ciel_log.specs.Logging.{most}
use Rattle.ciel_run_log.specs.declared.why.Why.{Why}

-- ---- of a job that ran, whose journal is J

module _ (g : Gives) (w : Words) (J : List Entry) (job : s.Job) where
  -- the tasks of what has these names, which are distinct, wait for one another, nothing is open, and the job never means an answer
  abbrev pub GoesRound : List Digest → Type 0
  GoesRound names =
      (w.plain ≡ false) × CircleOf (told_of g w job) (plan_of w) J names × s.Never job (around g) × IsDistinct same_text names

  -- as many descriptions are held as there may be, and one more is made: on the engine by an open Start, where it is given
  abbrev pub HasTooMany : ℕ → Option Desc1 → Type 0
  HasTooMany held None = (w.plain ≡ true) × (held ≡ 65536) × MakesMany job (around g) 65537
  HasTooMany held (Some given) =
      (w.plain ≡ false) × (held ≡ 65536) × ((n : Named) × (n.desc ≡ given) × OverflowOf (run_of g w job) (plan_of w) J held n)

  -- these are canonical bytes of two descriptions of the run that differ and have one digest
  abbrev pub Clashes : (kept given : List ℕ) → Type 0
  Clashes kept given = (w.plain ≡ false) × ClashOf (run_of g w job) (plan_of w) J kept given

  -- each worker has a Lost
  abbrev pub LosesAll : Type 0
  LosesAll = (w.plain ≡ false) × AllAreLost (plan_of w) J

  -- so many descriptions wait for each other
  abbrev pub IsTooDeep : ℕ → Type 0
  IsTooDeep depth = (w.plain ≡ true) × (depth ≡ 4096) × ((d : s.Desc) × Chain job (around g) 4096 d)

  -- why the job has no bytes
  abbrev pub JobCause : Why → Type 0
  JobCause (Why.Fault fault) = s.Means job (around g) (Answered.fault fault)
  JobCause (Why.Endless names) = GoesRound names
  JobCause (Why.TooMany held given) = HasTooMany held given
  JobCause Why.AllLost = LosesAll
  JobCause (Why.NameClash kept given) = Clashes kept given
  JobCause (Why.TooDeepPlain depth) = IsTooDeep depth
  JobCause _ = Unit {0}

  -- the root task came to its end where the job has bytes, or a fault
  abbrev pub EndsRoot : Result (List ℕ) Why → Type 0
  EndsRoot (Ok bytes) = RootEnds g w J job
  EndsRoot (Err (Why.Fault fault)) = RootEnds g w J job
  EndsRoot (Err _) = Unit {0}

  -- what a job comes to: the bytes that it means, or why it has none; by a driven journal on the engine, and with none by the sequential
  -- interpreter
  pub record AnswersSo (result : Result (List ℕ) Why) : Type 0 where
    pub bytes : IfOk result (λ b. s.Means job (around g) (Answered.bytes b))
    pub none : IfErr result JobCause
    pub driven : (J ≡ []) ⊎ DrivenJournal (told_of g w job) (plan_of w) J
    pub root : w.plain ≡ false → EndsRoot result

-- by which way of running a job that was read comes to an end without bytes, whatever log it went on from; and where none began
abbrev pub Way : Words → List Entry → Why → Type 0
Way w J (Why.Fault fault) = Unit {0}
Way w J (Why.Endless names) = w.plain ≡ false
Way w J (Why.TooMany held None) = w.plain ≡ true
Way w J (Why.TooMany held (Some given)) = w.plain ≡ false
Way w J Why.AllLost = w.plain ≡ false
Way w J (Why.NameClash kept given) = w.plain ≡ false
Way w J (Why.TooDeepPlain depth) = w.plain ≡ true
Way w J (Why.KeepFault path) = (w.plain ≡ false) × (log_path w ≡ Some path) × (J ≡ [])
Way w J (Why.BadLog path at) = (w.plain ≡ false) × (w.resume ≡ Some path) × (J ≡ [])
Way w J (Why.OtherJob path) = (w.plain ≡ false) × (w.resume ≡ Some path) × (J ≡ [])
Way w J Why.Memory = Unit {0}
Way w J _ = ⊥

pub record WaySo (w : Words) (J : List Entry) (result : Result (List ℕ) Why) : Type 0 where
  pub way : IfErr result (Way w J)
  pub plain : w.plain ≡ true → J ≡ []

-- ---- of a line

-- a file of its job is longer than its limit
abbrev pub TooLongOf : (List ℕ → Option (List ℕ)) → Option files.Line → List ℕ → ℕ → Type 0
TooLongOf content None path at = ⊥
TooLongOf content (Some f) path at =
    IsOver content f path at
    × ((source : List ℕ) (inputs : List Input) → Holds content f source inputs → IsTooLong f source inputs path at)

module _ (content : List ℕ → Option (List ℕ)) (w : Words) where
  -- the job of the line was read, within the limits
  abbrev pub HasJob : Type 0
  HasJob = OfJobFiles content w (λ source inputs. FitsIn (files_of w) source inputs × IsSource source inputs)

  -- a file of the line is longer than its limit: one of its job's; or the memo that it reads, or the log that it goes on from, and the job was read
  abbrev pub TooLongBy : List ℕ → ℕ → Type 0
  TooLongBy path at =
      TooLongOf content (files_of w) path at
      ⊎ (((w.memo ≡ Some path) × (at ≡ most_of_a_file) × PassesIfTold (content path) most_of_a_file × HasJob)
      ⊎ ((w.resume ≡ Some path) × (at ≡ most) × PassesIfTold (content path) most × HasJob))

  -- the file at this path is no memo's, where it is told, and its first bad entry is at this place; and the job was read
  abbrev pub HasBadMemo : List ℕ → ℕ → Type 0
  HasBadMemo path at = ((bytes : List ℕ) → content path ≡ Some bytes → BadAt bytes at) × HasJob

  -- where files tell the job and the memo that is read, which are within their limits, and the memo has a bad entry at a place: the fact, of its
  -- path and this place
  abbrev pub IfNoMemo : (List ℕ → ℕ → Type 0) → Type 0
  IfNoMemo P =
      (path bytes : List ℕ) (at : ℕ) → w.memo ≡ Some path → content path ≡ Some bytes → length bytes ≤ most_of_a_file → BadAt bytes at
      → OfJobFiles content w (λ source inputs. FitsIn (files_of w) source inputs → IsSource source inputs → P path at)

  -- the fact, of the log at this path, where files tell it and the job
  abbrev pub OfLog : List ℕ → (List ℕ → List Input → s.Job → List ℕ → Type 0) → Type 0
  OfLog path P =
      OfJobFiles content w (λ source inputs. FitsIn (files_of w) source inputs
      × OfJob source inputs (λ job. (bytes : List ℕ) → content path ≡ Some bytes → P source inputs job bytes))

  -- behind the header of this line and whole records, a whole record of the log begins at this place; and the records up to and with that one
  -- begin no log of a run of this line
  abbrev pub HasBadRecord : List ℕ → ℕ → Type 0
  HasBadRecord path at =
      (g : Gives) → GivesOf content w g
      → OfLog path (λ source inputs job bytes. IsBadRecord g w source inputs job bytes at)

  -- its first record is whole and isn't the header of this line
  abbrev pub HasOtherHeader : List ℕ → Type 0
  HasOtherHeader path = OfLog path (λ source inputs job bytes. BeginsOther bytes (header_of w source inputs))

  -- where files tell the job, the memo that is read, which is one, and the log, which are within their limits, and the log's first record is
  -- whole and isn't the header of this line: the fact, of the log's path
  abbrev pub IfOther : (List ℕ → Type 0) → Type 0
  IfOther P =
      (path bytes : List ℕ) → w.resume ≡ Some path → content path ≡ Some bytes → length bytes ≤ most → HasMemo content w.memo
      → OfJobFiles content w (λ source inputs. FitsIn (files_of w) source inputs → IsSource source inputs
      → BeginsOther bytes (header_of w source inputs) → P path)

-- `risen` says that the count of faults of the files rose, and J is the journal
module _ (content : List ℕ → Option (List ℕ)) (w : Words) (risen : Type 0) (J : List Entry) where
  -- why there is no job to run
  abbrev pub NoJobBy : Why → Type 0
  NoJobBy (Why.Syntax kind l c) = OfSource content w (λ source. SourceFits (files_of w) source × IsSyntaxFault source kind l c)
  NoJobBy (Why.ReadFault path) = Contains (paths_of w) path × risen
  NoJobBy (Why.TooLongInput path at) = TooLongBy content w path at
  NoJobBy (Why.BadMemo path at) = (w.memo ≡ Some path) × HasBadMemo content w path at
  NoJobBy Why.Memory = Unit {0}
  NoJobBy _ = ⊥

  -- the same, told before a log is looked at
  abbrev pub NoneBefore : Why → Type 0
  NoneBefore (Why.TooLongInput path at) =
      TooLongOf content (files_of w) path at
      ⊎ ((w.memo ≡ Some path) × (at ≡ most_of_a_file) × PassesIfTold (content path) most_of_a_file × HasJob content w)
  NoneBefore why = NoJobBy why

  -- there is no job to run, for want of memory or as this says
  abbrev pub NoneEnds : Result (List ℕ) Why → Type 0
  NoneEnds result = (why : Why) × (result ≡ Err why) × NoJobBy why

  -- so it ends before a log is looked at
  abbrev pub NoMemoEnds : Result (List ℕ) Why → Type 0
  NoMemoEnds result = (why : Why) × (result ≡ Err why) × NoneBefore why

  -- a log of another job at this path ends the call so; or there is no job to run
  abbrev pub OtherEnds : Result (List ℕ) Why → List ℕ → Type 0
  OtherEnds result path = (result ≡ Err (Why.OtherJob path)) ⊎ NoneEnds result

  -- ---- of what executors give to it

  -- the fact, of the job of the line, which is within the limits, where files tell it
  abbrev pub OfRun : (Gives → s.Job → Type 0) → Type 0
  OfRun P = OfLine content w (λ g source inputs. FitsIn (files_of w) source inputs × OfJob source inputs (P g))

  -- why nothing is to be written
  abbrev pub CauseOf : Why → Type 0
  CauseOf Why.AllLost = (w.plain ≡ false) × Surely content w (AllAreLost (plan_of w) J) × OfRun (λ g job. Unit {0})
  CauseOf (Why.TooDeepPlain depth) = (w.plain ≡ true) × OfRun (λ g job. IsTooDeep g w J job depth)
  CauseOf (Why.Fault fault) = OfRun (λ g job. JobCause g w J job (Why.Fault fault))
  CauseOf (Why.Endless names) = (w.plain ≡ false) × Surely content w (IsDistinct same_text names) × OfRun (λ g job. GoesRound g w J job names)
  CauseOf (Why.TooMany held None) = (w.plain ≡ true) × OfRun (λ g job. HasTooMany g w J job held None)
  CauseOf (Why.TooMany held (Some given)) = (w.plain ≡ false) × OfRun (λ g job. HasTooMany g w J job held (Some given))
  CauseOf (Why.NameClash kept given) = (w.plain ≡ false) × OfRun (λ g job. Clashes g w J job kept given)
  CauseOf (Why.KeepFault path) = (w.plain ≡ false) × (log_path w ≡ Some path) × (J ≡ []) × OfRun (λ g job. Unit {0})
  CauseOf (Why.BadLog path at) = (w.plain ≡ false) × (w.resume ≡ Some path) × (J ≡ []) × HasBadRecord content w path at
  CauseOf (Why.OtherJob path) = (w.plain ≡ false) × (w.resume ≡ Some path) × (J ≡ []) × HasOtherHeader content w path
  CauseOf why = NoJobBy why
