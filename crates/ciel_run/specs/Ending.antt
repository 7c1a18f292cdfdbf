-- How a call of the program ends.
use Rattle.std.specs.Prelude.{◌≡◌, ◌≢◌, ◌≤◌, ◌⊎◌, ◌++◌, ◌∷◌, ℕ, List, [], IfSome, Bool, true, false, Option, Some, None, Result, Ok, Err, if◌then◌else◌, take}
use Rattle.sky_base.specs.See.{Answered, Means}
use Rattle.sky_base.specs.declared.fault.Fault.{Fault}
use Rattle.sky_base.specs.declared.object.Desc1.{Desc1}
use Rattle.ciel_io.specs.HeldFiles.{bytes_at}
use Rattle.ciel_io.specs.Kept.{Files}
use Rattle.ciel_io.specs.Tells.{Tells, TellsPart}
use Rattle.ciel_journal.specs.Entries.{Entry}
use Rattle.ciel_journal.specs.History.{Plan}
use Rattle.ciel_journal.specs.Job.{Digest}
use Rattle.ciel_memo.specs.Right.{IsRight}
use Rattle.ciel_memo_file.specs.Entries.{Entry as Remembered}
use Rattle.ciel_memo_file.specs.File.{IsMemo}
use Rattle.ciel_run_load.specs.Found.{IsTooLong}
use Rattle.ciel_run_load.specs.Line as files
use Rattle.ciel_run_load.specs.Line.{Input}
use Rattle.ciel_run_load.specs.Reading.{AsksUpTo}
use Rattle.ciel_run_load.specs.Syntax.{IsSyntaxFault}
use Rattle.ciel_run_load.specs.declared.script.SyntaxKind.{SyntaxKind}
use Rattle.line_kit.specs.Gives.{gives}
use Rattle.sky_base.specs.KitView.{Gives}
use Rattle.sky_base_law.specs.Tasks.{Each}
use Rattle.ciel_run_line.specs.Entry.{Entry as Line}
use Rattle.ciel_run_log.specs.Text.{journal_text}
use Rattle.ciel_words.specs.declared.words.Words.{Words}
use Rattle.ciel_run_line.specs.LogState.{LogState}
use Rattle.ciel_run_line.specs.Line.{FitsIn, OfLine, SourceFits, files_of, log_of}
use Rattle.ciel_run_line.specs.Causes.{CauseOf, OfRun}
use Rattle.ciel_run_line.specs.Ended.{SomeStays}
use Rattle.ciel_run_line.specs.Keeping.{AsksOnly, BeginsLog, FillsLog, IsLog, OfLog}
use Rattle.ciel_run_line.specs.Logging.{most}
use Rattle.ciel_run_line.specs.Given.{HoldsAt, memo_path}
use Rattle.ciel_run_line.specs.Runs.{IsModestFor, log_path, plan_of}
use Rattle.ciel_run_line.specs.Source.{HasChain, HasNone, IsAnswer, IsSource, Makes, around}
use Rattle.ciel_run_log.specs.Summary.{output_of}
use Rattle.ciel_run_log.specs.declared.why.Why.{Why}

-- ---- the fact, of what an end tells

abbrev pub IfSyntax : Why → (SyntaxKind → ℕ → ℕ → Type 0) → Type 0
IfSyntax (Why.Syntax kind line col) P = P kind line col
IfSyntax _ P = Unit {0}

abbrev pub IfFault : Why → (Fault → Type 0) → Type 0
IfFault (Why.Fault fault) P = P fault
IfFault _ P = Unit {0}

abbrev pub IfEndless : Why → (List Digest → Type 0) → Type 0
IfEndless (Why.Endless names) P = P names
IfEndless _ P = Unit {0}

abbrev pub IfTooMany : Why → (ℕ → Option Desc1 → Type 0) → Type 0
IfTooMany (Why.TooMany held given) P = P held given
IfTooMany _ P = Unit {0}

abbrev pub IfNameClash : Why → (List ℕ → List ℕ → Type 0) → Type 0
IfNameClash (Why.NameClash kept given) P = P kept given
IfNameClash _ P = Unit {0}

abbrev pub IfReadFault : Why → (List ℕ → Type 0) → Type 0
IfReadFault (Why.ReadFault path) P = P path
IfReadFault _ P = Unit {0}

abbrev pub IfTooLong : Why → (List ℕ → ℕ → Type 0) → Type 0
IfTooLong (Why.TooLongInput path at) P = P path at
IfTooLong _ P = Unit {0}

abbrev pub IfTooDeep : Why → (ℕ → Type 0) → Type 0
IfTooDeep (Why.TooDeepPlain depth) P = P depth
IfTooDeep _ P = Unit {0}

abbrev pub IfKeepFault : Why → (List ℕ → Type 0) → Type 0
IfKeepFault (Why.KeepFault path) P = P path
IfKeepFault _ P = Unit {0}

abbrev pub IfLogFull : Why → (List ℕ → ℕ → Type 0) → Type 0
IfLogFull (Why.LogFull path held) P = P path held
IfLogFull _ P = Unit {0}

abbrev pub IfBadLog : Why → (List ℕ → ℕ → Type 0) → Type 0
IfBadLog (Why.BadLog path at) P = P path at
IfBadLog _ P = Unit {0}

abbrev pub IfBadMemo : Why → (List ℕ → ℕ → Type 0) → Type 0
IfBadMemo (Why.BadMemo path at) P = P path at
IfBadMemo _ P = Unit {0}

abbrev pub IfOtherJob : Why → (List ℕ → Type 0) → Type 0
IfOtherJob (Why.OtherJob path) P = P path
IfOtherJob _ P = Unit {0}

-- ---- which run it ends

-- the way of running that the line asks for, where an end comes of one of the two alone: of the engine, or of the sequential interpreter
abbrev pub ComesBy : (plain : Bool) → Why → Type 0
ComesBy plain (Why.Endless names) = plain ≡ false
ComesBy plain (Why.TooMany held None) = plain ≡ true
ComesBy plain (Why.TooMany held (Some given)) = plain ≡ false
ComesBy plain Why.AllLost = plain ≡ false
ComesBy plain (Why.NameClash kept given) = plain ≡ false
ComesBy plain (Why.TooDeepPlain depth) = plain ≡ true
ComesBy plain (Why.KeepFault path) = plain ≡ false
ComesBy plain (Why.BadLog path at) = plain ≡ false
ComesBy plain (Why.OtherJob path) = plain ≡ false
ComesBy plain (Why.BadMemo path at) = plain ≡ false
ComesBy plain (Why.LogFull path held) = plain ≡ false
ComesBy plain _ = Unit {0}

-- the job of the line was read, and ran, or its memo was none, or its log couldn't be begun, or gone on from
abbrev pub HasRun : Why → Type 0
HasRun Why.Done = Unit {0}
HasRun (Why.Fault fault) = Unit {0}
HasRun (Why.Endless names) = Unit {0}
HasRun (Why.TooMany held given) = Unit {0}
HasRun Why.AllLost = Unit {0}
HasRun (Why.NameClash kept given) = Unit {0}
HasRun Why.WriteFault = Unit {0}
HasRun (Why.TooDeepPlain depth) = Unit {0}
HasRun (Why.KeepFault path) = Unit {0}
HasRun (Why.BadLog path at) = Unit {0}
HasRun (Why.OtherJob path) = Unit {0}
HasRun (Why.BadMemo path at) = Unit {0}
HasRun (Why.LogFull path held) = Unit {0}
HasRun _ = ⊥

-- ---- what is written

module _ (g : Gives) (w : Words) (source : List ℕ) (inputs : List Input) where
  -- what was written is the answer of the script with this source over these inputs, where executors give this, as the line wants it
  abbrev pub WritesAnswer : Option (List ℕ) → Option (List ℕ) → Type 0
  WritesAnswer before now = (a : List ℕ) × IsAnswer g source inputs (Answered.bytes a) × Tells before now (output_of w.generate a)

  -- what was written is a prefix of it
  abbrev pub WritesPart : Option (List ℕ) → Option (List ℕ) → Type 0
  WritesPart before now = (a : List ℕ) × IsAnswer g source inputs (Answered.bytes a) × TellsPart before now (output_of w.generate a)

-- of a line whose job means an answer, within the limits, the fact of what is written of it
abbrev pub Writes : (List ℕ → Option (List ℕ)) → Words → (List ℕ → Type 0) → Type 0
Writes content w P =
    (a : List ℕ)
    × OfLine content w (λ g source inputs. FitsIn (files_of w) source inputs × IsAnswer g source inputs (Answered.bytes a))
    × P (output_of w.generate a)

-- why a call ends so, but for what is written
abbrev pub EndCause : (List ℕ → Option (List ℕ)) → Words → Type 0 → List Entry → Why → Type 0
EndCause content w risen J Why.Done = Unit {0}
EndCause content w risen J Why.WriteFault = Unit {0}
EndCause content w risen J (Why.KeepFault path) =
    (w.plain ≡ false) × ((log_path w ≡ Some path) ⊎ (memo_path w ≡ Some path)) × OfRun content w risen J (λ g job. Unit {0})
EndCause content w risen J (Why.LogFull path held) =
    (w.plain ≡ false) × (log_path w ≡ Some path)
    × ((a : List ℕ) × OfRun content w risen J (λ g job. Means job (around g) (Answered.bytes a)))
EndCause content w risen J why = CauseOf content w risen J why

-- where nothing is written
abbrev pub WritesNothing : Why → Type 0
WritesNothing Why.Done = ⊥
WritesNothing Why.WriteFault = ⊥
WritesNothing Why.Memory = ⊥
WritesNothing (Why.KeepFault path) = ⊥
WritesNothing (Why.LogFull path held) = ⊥
WritesNothing _ = Unit {0}

-- ---- the log of the run

-- what a call comes to whose answer was written, by the path of the log and how it stands: want of memory may come besides where it isn't whole
abbrev pub IsTrouble : Option (List ℕ) → LogState → Why → Type 0
IsTrouble log LogState.Whole why = why ≡ Why.Done
IsTrouble None state why = why ≡ Why.Done
IsTrouble (Some path) LogState.Failed why = (why ≡ Why.KeepFault path) ⊎ (why ≡ Why.Memory)
IsTrouble (Some path) (LogState.Full held) why = (why ≡ Why.LogFull path held) ⊎ (why ≡ Why.Memory)
IsTrouble (Some path) LogState.Memory why = why ≡ Why.Memory

-- by the path of the log, if there is one: no other was asked, but for want of memory
abbrev pub AsksLog : Option (List ℕ) → Why → Option (List (List ℕ)) → Option (List (List ℕ)) → Type 0
AsksLog None why before now = before ≡ now
AsksLog (Some path) Why.Memory before now = Unit {0}
AsksLog (Some path) why before now = AsksOnly path before now

-- what its file tells of the journal, where it is known whether the keeper may have failed: a whole log, the beginning of one where it isn't
-- known that it is whole, or as much as there may be. Where the memo's file is the same one, it is that of the memo then
module _ (g : Gives) (w : Words) (source : List ℕ) (inputs : List Input) (J : List Entry) (failed : Type 0) (files : Option Files) where
  abbrev pub IfApart : Type 0 → Type 0
  IfApart P = ((path : List ℕ) → log_path w ≡ Some path → memo_path w ≡ Some path → ⊥) → P

  abbrev pub LogSays : Why → Type 0
  LogSays Why.Done = IfApart (OfLog g w source inputs J files (IsLog g w source inputs J))
  LogSays (Why.Fault fault) = IfApart (OfLog g w source inputs J files (BeginsLog g w source inputs J failed))
  LogSays (Why.Endless names) = OfLog g w source inputs J files (BeginsLog g w source inputs J failed)
  LogSays Why.AllLost = OfLog g w source inputs J files (BeginsLog g w source inputs J failed)
  LogSays (Why.LogFull path held) = OfLog g w source inputs J files (FillsLog g w source inputs J held)
  LogSays _ = Unit {0}

-- ---- the memo

-- the path of its file, and that of the one that is read
abbrev pub memo_of : Option Words → Option (List ℕ)
memo_of None = None
memo_of (Some w) = memo_path w

abbrev pub recalled_of : Option Words → Option (List ℕ)
recalled_of None = None
recalled_of (Some w) = w.memo

-- the line keeps a log or a memo
abbrev pub KeepsFiles : Option Words → Type 0
KeepsFiles o = (log_of o ≢ None) ⊎ (memo_of o ≢ None)

-- by the paths of the log and of the memo, if there are such: the log's was asked, and then perhaps the memo's, and no other, but for want of memory
abbrev pub AsksKept : (log memo : Option (List ℕ)) → Why → Option (List (List ℕ)) → Option (List (List ℕ)) → Type 0
AsksKept log None why before now = AsksLog log why before now
AsksKept log (Some path) why before now =
    why ≢ Why.Memory
    → AsksLog log why before now ⊎ ((between : Option (List (List ℕ))) × AsksLog log why before between × Tells between now (path ∷ []))

-- the bytes are a memo's file, of these entries and then of new ones, each of which the executors over lines give
abbrev pub IsMemoWith : List Remembered → List ℕ → Type 0
IsMemoWith es bytes = (new : List Remembered) × IsMemo bytes (es ++ new) × Each (IsRight gives) new

-- so it is of the file at this path, where it is told
abbrev pub KeepsMemo : Option Files → (path : List ℕ) → List Remembered → Type 0
KeepsMemo files path es = IfSome files (λ fs. IsMemoWith es (bytes_at fs path))

-- the job came to its answer, or to a fault, and nothing came in the way
abbrev pub EndsJob : Why → Type 0
EndsJob Why.Done = Unit {0}
EndsJob (Why.Fault fault) = Unit {0}
EndsJob _ = ⊥

-- how a call ends that ended so, once its memo was written: so it ends still; or the answer was written and the memo wasn't
abbrev pub Remembers : (memo : Option (List ℕ)) → (before now : Why) → Type 0
Remembers memo before now =
    (now ≡ before)
    ⊎ ((path : List ℕ) × (memo ≡ Some path) × (before ≡ Why.Done) × ((now ≡ Why.KeepFault path) ⊎ (now ≡ Why.Memory)))

-- so it is for the memo of this line, by the entries that it begins with: those of the file that is read, where it is told, or none
abbrev pub MemoSays : (List ℕ → Option (List ℕ)) → Words → Option Files → Type 0
MemoSays content w files = (path : List ℕ) → memo_path w ≡ Some path → (es : List Remembered) → HoldsAt content w.memo es → KeepsMemo files path es

-- the text of a journal, where the line asks for it
abbrev pub trace_of : Bool → List Line → List ℕ
trace_of traced J = if traced then journal_text J else []

-- on the log a prefix of one text stands behind what was there, and then a prefix of another
abbrev pub TellsParts : Option (List ℕ) → Option (List ℕ) → List ℕ → List ℕ → Type 0
TellsParts before now text more = (i k : ℕ) × Tells before now (take i text ++ take k more)

-- ---- which end comes

-- a run may end so over this script and these inputs, where executors give this
abbrev pub MayEnd : Gives → Words → List ℕ → List Input → Why → Type 0
MayEnd g w source inputs (Why.TooMany held None) = Makes g source inputs 65537
MayEnd g w source inputs (Why.TooMany held (Some given)) = IsSource source inputs
MayEnd g w source inputs Why.Done = (a : List ℕ) × IsAnswer g source inputs (Answered.bytes a)
MayEnd g w source inputs (Why.Fault fault) = IsAnswer g source inputs (Answered.fault fault)
MayEnd g w source inputs (Why.Endless names) = HasNone g source inputs
MayEnd g w source inputs Why.AllLost = IsSource source inputs
MayEnd g w source inputs (Why.NameClash kept given) = IsSource source inputs
MayEnd g w source inputs (Why.TooDeepPlain depth) = HasChain g source inputs 4096
MayEnd g w source inputs (Why.LogFull path held) = (log_path w ≡ Some path) × ((a : List ℕ) × IsAnswer g source inputs (Answered.bytes a))
MayEnd g w source inputs _ = ⊥

-- a file of the line is too long
abbrev pub TooLongIn : Option files.Line → List ℕ → List Input → List ℕ → ℕ → Type 0
TooLongIn None source inputs path at = ⊥
TooLongIn (Some f) source inputs path at = IsTooLong f source inputs path at

-- the log that the line goes on from is too long, and the job is there
abbrev pub LogTooLong : Words → List ℕ → List Input → List ℕ → ℕ → Type 0
LogTooLong w source inputs path at = (w.resume ≡ Some path) × (at ≡ most) × FitsIn (files_of w) source inputs × IsSource source inputs

-- how a call ends over a script with this source and these inputs, where reading and writing go well: what is too long is refused, bytes
-- that are no script are, and any other call ends with what its job comes to, but for want of memory. A log of its own is never refused
abbrev pub IsExpected : Gives → Words → List ℕ → List Input → Why → Type 0
IsExpected g w source inputs (Why.Syntax kind l c) = SourceFits (files_of w) source × IsSyntaxFault source kind l c
IsExpected g w source inputs (Why.TooLongInput path at) = TooLongIn (files_of w) source inputs path at ⊎ LogTooLong w source inputs path at
IsExpected g w source inputs Why.Memory = Unit {0}
IsExpected g w source inputs why = FitsIn (files_of w) source inputs × MayEnd g w source inputs why

-- an end with the job's answer, or for want of memory; a sequential run may find a chain too long, and another's log may be full; one that is
-- gone on from may be too long
abbrev pub IsAnswered : Words → Why → Type 0
IsAnswered w Why.Done = Unit {0}
IsAnswered w (Why.Fault fault) = Unit {0}
IsAnswered w Why.Memory = Unit {0}
IsAnswered w (Why.TooDeepPlain depth) = w.plain ≡ true
IsAnswered w (Why.LogFull path held) = w.plain ≡ false
IsAnswered w (Why.TooLongInput path at) = w.resume ≡ Some path
IsAnswered w _ = ⊥

-- over files within the limits, a job that means an answer, that makes few descriptions, no two of which share a name, and that some
-- worker is left to run, comes to its answer
abbrev pub Answers : Gives → Words → List ℕ → List Input → Why → Type 0
Answers g w source inputs why =
    FitsIn (files_of w) source inputs → IsModestFor g w source inputs → SomeStays (plan_of w) → IsAnswered w why
