-- Which run began, and which paths were asked, by how a call ends.
use Rattle.std.specs.Prelude.{◌≡◌, ◌++◌, ◌⊎◌, ℕ, List, [], ◌∷◌, Bool, true, Option, Some, None, Result, Ok, Err, IfErr, take}
use Rattle.ciel_io.specs.Tells.{Tells, TellsPart}
use Rattle.ciel_run_load.specs.Line as files
use Rattle.ciel_run_load.specs.Loading.{AllRead, StopsAt}
use Rattle.ciel_run_load.specs.Reading.{AsksUpTo}
use Rattle.ciel_run_line.specs.Given.{IsRecalled}
use Rattle.ciel_run_line.specs.Line.{named, paths_in}
use Rattle.ciel_run_log.specs.declared.why.Why.{Why}

-- ---- which run began

-- no run on the engine began: its journal is empty, and no gate was entered
abbrev pub NoRun : Bool → Why → Type 0
NoRun plain Why.Usage = Unit {0}
NoRun plain (Why.Syntax kind line col) = Unit {0}
NoRun plain (Why.ReadFault path) = Unit {0}
NoRun plain (Why.TooLongInput path at) = Unit {0}
NoRun plain (Why.TooDeepPlain depth) = Unit {0}
NoRun plain (Why.BadLog path at) = Unit {0}
NoRun plain (Why.OtherJob path) = Unit {0}
NoRun plain (Why.BadMemo path at) = Unit {0}
NoRun plain _ = plain ≡ true

-- of a result, where none is there; where the log couldn't be begun, none began
abbrev pub NoRunOf : Bool → Result (List ℕ) Why → Type 0
NoRunOf plain (Ok answer) = plain ≡ true
NoRunOf plain (Err (Why.KeepFault path)) = Unit {0}
NoRunOf plain (Err why) = NoRun plain why

-- the root task came to its end
abbrev pub ShowsEnd : Why → Type 0
ShowsEnd Why.Done = Unit {0}
ShowsEnd (Why.Fault fault) = Unit {0}
ShowsEnd Why.WriteFault = Unit {0}
ShowsEnd (Why.LogFull path held) = Unit {0}
ShowsEnd _ = ⊥

abbrev pub ShowsResult : Result (List ℕ) Why → Type 0
ShowsResult (Ok answer) = Unit {0}
ShowsResult (Err why) = ShowsEnd why

-- ---- which paths were asked

-- where the paths asked are told, they grew by all paths of the words, those of the job's files and then the others; by the script's alone
-- where it is none, by those up to the one that could not be read, or for want of memory by some of the first; words that are no line name
-- none; a memo's file that is none is the last one asked
abbrev pub AsksFor : Why → (job others : List (List ℕ)) → Option (List (List ℕ)) → Option (List (List ℕ)) → Type 0
AsksFor Why.Memory job others before now = TellsPart before now (job ++ others)
AsksFor (Why.Syntax kind line col) job others before now = Tells before now (take 1 job)
AsksFor (Why.ReadFault path) job others before now = AsksUpTo path (job ++ others) before now
AsksFor (Why.TooLongInput path at) job others before now = AsksUpTo path (job ++ others) before now
AsksFor (Why.BadMemo path at) job others before now = AsksUpTo path (job ++ others) before now
AsksFor _ job others before now = Tells before now (job ++ others)

abbrev pub AsksOf : Result (List ℕ) Why → (job others : List (List ℕ)) → Option (List (List ℕ)) → Option (List (List ℕ)) → Type 0
AsksOf (Ok answer) job others before now = Tells before now (job ++ others)
AsksOf (Err why) job others before now = AsksFor why job others before now

-- ---- in which order

-- the file at this path is the last one asked, and what stands before it in the line was within its limits
abbrev pub StopsIn : (List ℕ → Option (List ℕ)) → Option files.Line → List ℕ → Option (List (List ℕ)) → Option (List (List ℕ)) → Type 0
StopsIn content None path before now = ⊥
StopsIn content (Some f) path before now = StopsAt content f path before now

-- the script is one and each input fits, where files tell them
abbrev pub IsRead : (List ℕ → Option (List ℕ)) → Option files.Line → Type 0
IsRead content None = Unit {0}
IsRead content (Some f) = AllRead content f

module _ (content : List ℕ → Option (List ℕ)) (f : Option files.Line) (memo resume : Option (List ℕ)) where
  -- or it is the memo that is read, and all files of the job were read
  abbrev pub StopsAtMemo : List ℕ → Option (List (List ℕ)) → Option (List (List ℕ)) → Type 0
  StopsAtMemo path before now = (memo ≡ Some path) × IsRead content f × Tells before now (paths_in f ++ path ∷ [])

  -- or the log that is gone on from, and all before it was read
  abbrev pub StopsAtLog : List ℕ → Option (List (List ℕ)) → Option (List (List ℕ)) → Type 0
  StopsAtLog path before now =
      (resume ≡ Some path) × IsRead content f × IsRecalled content memo × Tells before now (paths_in f ++ (named memo ++ path ∷ []))

  abbrev pub StopsLast : List ℕ → Option (List (List ℕ)) → Option (List (List ℕ)) → Type 0
  StopsLast path before now = StopsIn content f path before now ⊎ (StopsAtMemo path before now ⊎ StopsAtLog path before now)

  -- so it is where a file could not be read, or is too long, or is no memo's
  abbrev pub StopsFor : Option (List (List ℕ)) → Option (List (List ℕ)) → Why → Type 0
  StopsFor before now (Why.ReadFault path) = StopsLast path before now
  StopsFor before now (Why.TooLongInput path at) = StopsLast path before now
  StopsFor before now (Why.BadMemo path at) = StopsAtMemo path before now
  StopsFor before now _ = Unit {0}
