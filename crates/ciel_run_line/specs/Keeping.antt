-- The log of a line's run: the header that it begins with, what the run makes of its keeper, and what its file tells.
use Rattle.std.specs.Prelude.{◌≡◌, ◌≤◌, ℕ, List, Bool, true, false, Option, Some, None, IfSome, Result, Ok, Err, length}
use Rattle.sky_base.specs.KitView.{Gives}
use Rattle.sky_base.specs.See as s
use Rattle.ciel_io.specs.Faults.{HasRisen}
use Rattle.ciel_io.specs.HeldFiles.{bytes_at}
use Rattle.ciel_io.specs.Kept.{Files}
use Rattle.ciel_journal.specs.Entries.{Entry}
use Rattle.ciel_log.specs.Logs.{FullAt, HasDropped, Logs, WrittenPart}
use Rattle.ciel_log.specs.declared.state.LogState.{LogState}
use Rattle.ciel_log_records.specs.Records.{header_record}
pub use Rattle.ciel_run_resumed.specs.Keeping.{HasBytes, StandsBy}
pub use Rattle.ciel_run_resumed.specs.RunLoggedKeeping.{AsksOnly, KeeperSeen}
use Rattle.ciel_run_load.specs.Line.{Input}
use Rattle.ciel_run_line.specs.Runs.{digest_of, log_path, plan_of}
use Rattle.ciel_run_line.specs.Source.{OfJob}
use Rattle.ciel_run_log.specs.declared.why.Why.{Why}
use Rattle.ciel_words.specs.declared.words.NameKind.{NameKind}
use Rattle.ciel_words.specs.declared.words.Words.{Words}

-- whether names have 20 bytes
abbrev pub is_short : NameKind → Bool
is_short NameKind.Sha1 = true
is_short NameKind.Sha256 = false

-- the header of the log of a line, over a script of these bytes and these inputs
abbrev pub header_of : Words → (source : List ℕ) → List Input → List ℕ
header_of w source inputs = header_record w.workers w.seed w.losses (is_short w.names) source inputs

-- ---- what is made of the keeper

-- by the path of the log, if there is one: no other path was asked, and the keeper's faults don't fall; where no run began for it, it has failed
abbrev pub KeepsLog : Option (List ℕ) → (before now : KeeperSeen) → Result (List ℕ) Why → LogState → Type 0
KeepsLog None before now result state = (now ≡ before) × (state ≡ LogState.Whole)
KeepsLog (Some path) before now (Err (Why.KeepFault p)) state =
    (p ≡ path) × AsksOnly path before.asked now.asked × HasRisen before.faults now.faults
KeepsLog (Some path) before now (Err Why.Memory) state = Unit {0}
KeepsLog (Some path) before now _ state =
    AsksOnly path before.asked now.asked × StandsBy path before now state × (before.faults ≤ now.faults)

-- ---- what its file tells

module _ (g : Gives) (w : Words) (source : List ℕ) (inputs : List Input) (J : List Entry) where
  -- the bytes begin a log of the run; or the keeper failed, and they do up to the beginning of a dropped record
  abbrev pub BeginsLog : (failed : Type 0) → List ℕ → Type 0
  BeginsLog failed bytes =
      OfJob source inputs (λ job. WrittenPart (digest_of w.names) job g (plan_of w) (header_of w source inputs) J failed bytes)

  abbrev pub IsLog : List ℕ → Type 0
  IsLog bytes = OfJob source inputs (λ job. Logs (digest_of w.names) job g (plan_of w) (header_of w source inputs) J bytes)

  -- the bytes are all that a log of the run may have: the next record has no room
  abbrev pub FillsLog : ℕ → List ℕ → Type 0
  FillsLog held bytes =
      OfJob source inputs (λ job. FullAt (digest_of w.names) job g (plan_of w) (header_of w source inputs) J held bytes)

  -- what the bytes are of the run's log, as it stands
  abbrev pub Told : LogState → List ℕ → Type 0
  Told state bytes =
      BeginsLog (state ≡ LogState.Failed) bytes × (state ≡ LogState.Whole → IsLog bytes) × ((held : ℕ) → state ≡ LogState.Full held → FillsLog held bytes)

  -- the fact, of what stands at the path of the log, where it is told and has no record of a dropped report
  abbrev pub OfLog : Option Files → (List ℕ → Type 0) → Type 0
  OfLog files P =
      (path : List ℕ) → log_path w ≡ Some path → IfSome files (λ fs. (HasDropped (bytes_at fs path) → ⊥) → P (bytes_at fs path))

  -- so it is after a run that came to an answer, a fault, a circle or the loss of all workers
  abbrev pub LogTold : Option Files → LogState → Result (List ℕ) Why → Type 0
  LogTold files state result = told result
    where
      Tells : Type 0
      Tells = OfLog files (Told state)

      told : Result (List ℕ) Why → Type 0
      told (Ok answer) = Tells
      told (Err (Why.Fault fault)) = Tells
      told (Err (Why.Endless names)) = Tells
      told (Err Why.AllLost) = Tells
      told (Err _) = Unit {0}
