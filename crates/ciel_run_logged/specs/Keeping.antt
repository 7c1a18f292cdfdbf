-- What a run with a log makes of the keeper of its log.
use Rattle.std.specs.Prelude.{◌≡◌, ◌≤◌, ◌+◌, ℕ, List, Option, Some, IfSome, length, replicate}
use Rattle.ciel_io.specs.Faults.{HasRisen}
use Rattle.ciel_io.specs.HeldFiles.{bytes_at}
use Rattle.ciel_io.specs.Kept.{Files}
use Rattle.ciel_io.specs.Tells.{Tells}
use Rattle.ciel_log_law.specs.Logging.{most}
use Rattle.ciel_log_law.specs.LogState.{LogState}
use Rattle.ciel_log_law.specs.RunEnd.{RunEnd}

-- the fact, where the run came to an answer, a fault, a circle or the loss of all workers
abbrev pub IfOver : RunEnd → Type 0 → Type 0
IfOver (RunEnd.TooMany held more) P = Unit {0}
IfOver (RunEnd.NameClash kept other) P = Unit {0}
IfOver RunEnd.Memory P = Unit {0}
IfOver _ P = P

-- what a keeper tells
pub record KeeperSeen : Type 0 where
  pub files : Option Files
  pub asked : Option (List (List ℕ))
  pub faults : ℕ

-- the paths asked grew by this one alone
abbrev pub AsksOnly : List ℕ → Option (List (List ℕ)) → Option (List (List ℕ)) → Type 0
AsksOnly path before now = (times : ℕ) × Tells before now (replicate times path)

-- where the file at the path is told, it grew as much as from so many bytes to so many
abbrev pub GrowsTo : List ℕ → ℕ → ℕ → Option Files → Option Files → Type 0
GrowsTo path held more before now =
    IfSome now (λ files. (was : Files) × (before ≡ Some was) × (length (bytes_at files path) + held ≡ length (bytes_at was path) + more))

-- where the files are told, they were told before
abbrev pub ToldBefore : Option Files → Option Files → Type 0
ToldBefore before now = IfSome now (λ files. (was : Files) × (before ≡ Some was))

-- of a log at a path, which had so many bytes
module _ (path : List ℕ) (held : ℕ) (before now : KeeperSeen) where
  -- how it stands: a failure is the keeper's, and one that is full has no more bytes than there may be, those of the file
  abbrev pub StandsSo : LogState → Type 0
  StandsSo LogState.Whole = Unit {0}
  StandsSo LogState.Failed = HasRisen before.faults now.faults
  StandsSo (LogState.Full more) = (more ≤ most) × GrowsTo path held more before.files now.files
  StandsSo LogState.Memory = Unit {0}

  -- no other path was asked, and the log stands as it is told
  pub record Keeps (state : LogState) : Type 0 where
    pub asked : AsksOnly path before.asked now.asked
    pub never_falls : before.faults ≤ now.faults
    pub told : ToldBefore before.files now.files
    pub stands : StandsSo state
