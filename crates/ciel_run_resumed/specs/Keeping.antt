-- What a run that goes on from a log makes of the keeper of its file.
use Rattle.std.specs.Prelude.{◌≡◌, ◌≤◌, ℕ, List, Option, IfSome, length}
use Rattle.ciel_io.specs.Faults.{HasRisen}
use Rattle.ciel_io.specs.HeldFiles.{bytes_at}
use Rattle.ciel_io.specs.Kept.{Files}
use Rattle.ciel_log_law.specs.Logging.{most}
use Rattle.ciel_log_law.specs.LogState.{LogState}
use Rattle.ciel_run_logged.specs.Keeping.{AsksOnly, KeeperSeen}

-- where it is told, the file at the path has so many bytes
abbrev pub HasBytes : List ℕ → Option Files → ℕ → Type 0
HasBytes path files count = IfSome files (λ fs. length (bytes_at fs path) ≡ count)

module _ (path : List ℕ) (before now : KeeperSeen) where
  -- a failure is the keeper's; a log that is full has no more bytes than there may be, those of its file
  abbrev pub StandsBy : LogState → Type 0
  StandsBy LogState.Whole = Unit {0}
  StandsBy LogState.Failed = HasRisen before.faults now.faults
  StandsBy (LogState.Full held) = (held ≤ most) × HasBytes path now.files held
  StandsBy LogState.Memory = Unit {0}

  -- no other path was asked, its faults don't fall, and the log stands as it is told
  pub record KeptBy (state : LogState) : Type 0 where
    pub asked : AsksOnly path before.asked now.asked
    pub never_falls : before.faults ≤ now.faults
    pub stands : StandsBy state
