-- What a run that goes on from a log promises: which entries its journal begins with, what its file tells then, and how it is refused.
use Rattle.std.specs.Prelude.{◌≡◌, ◌≤◌, ◌∷◌, [], ℕ, zero, suc, List, Option, IfSome, length, take}
use Rattle.sky_base.specs.KitView.{Gives}
use Rattle.sky_base.specs.See as s
use Rattle.ciel_io.specs.HeldFiles.{bytes_at}
use Rattle.ciel_io.specs.Kept.{Changes, Files, Replaced}
use Rattle.ciel_journal.specs.Entries.{Entry}
use Rattle.ciel_journal.specs.History.{Plan}
use Rattle.ciel_log_follows.specs.Begins.{IsTold}
use Rattle.ciel_log_file.specs.Whole.{IsWhole}
use Rattle.ciel_log_law.specs.Logs.{FullAt, HasDropped, Logs, WrittenPart}
use Rattle.ciel_log_law.specs.LogState.{LogState}
use Rattle.ciel_log_records.specs.Records.{in_file}
use Rattle.ciel_io.specs.Faults.{HasRisen}
use Rattle.ciel_io.specs.Tells.{Tells}
use Rattle.ciel_run_logged.specs.Keeping.{KeeperSeen}
use Rattle.ciel_run_resumed.specs.declared.run.NotResumed.{NotResumed}

-- what stands in the file once it is begun again: its whole records, or the header where there are none
abbrev pub standing_bytes : (header log : List ℕ) → (whole : ℕ) → List ℕ
standing_bytes header log zero = in_file header
standing_bytes header log (suc n) = take (suc n) log

module _ (digest : List ℕ → List ℕ) (job : s.Job) (gives : Gives) (p : Plan) (header : List ℕ) where
  -- these are the entries that the whole records of the log tell
  abbrev pub Replays : (log : List ℕ) → List Entry → Type 0
  Replays log entries = (whole : ℕ) × IsWhole log header whole × IsTold digest job gives p header entries whole (take whole log)

  -- where the file at the path is told and has no dropped record, it begins a log of the journal; it is a whole one where the log stands
  -- whole; and where the log is full, the next record had no room
  abbrev pub FileTells : (path : List ℕ) → Option Files → List Entry → LogState → Type 0
  FileTells path files journal state =
      IfSome files (λ fs. (HasDropped (bytes_at fs path) → ⊥)
      → WrittenPart digest job gives p header journal (state ≡ LogState.Failed) (bytes_at fs path)
      × (state ≡ LogState.Whole → Logs digest job gives p header journal (bytes_at fs path))
      × ((has : ℕ) → state ≡ LogState.Full has → FullAt digest job gives p header journal has (bytes_at fs path)))

-- ---- the file of the log, begun again

-- it was put in the place of what stood at the path, and nothing else was asked: these bytes, so many, of which this is so
pub record BegunWith (path : List ℕ) (before now : KeeperSeen) (held : ℕ) (P : List ℕ → Type 0) : Type 0 where
  pub bytes : List ℕ
  pub size : held ≡ length bytes
  pub are : P bytes
  pub put : Changes before.files now.files path (Replaced bytes)
  pub asked : Tells before.asked now.asked (path ∷ [])
  pub never_falls : before.faults ≤ now.faults

-- what a refusal makes of the keeper: it wasn't asked, or it failed
abbrev pub RefusesSo : (path : List ℕ) → (before now : KeeperSeen) → NotResumed → Type 0
RefusesSo path before now NotResumed.OtherJob = now ≡ before
RefusesSo path before now (NotResumed.BadLog at) = now ≡ before
RefusesSo path before now NotResumed.Failed = HasRisen before.faults now.faults × Tells before.asked now.asked (path ∷ [])
RefusesSo path before now NotResumed.Memory = Unit {0}
