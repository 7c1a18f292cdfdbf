-- Records one behind the other in a log's file.
use Rattle.std.specs.Prelude.{◌≡◌, ◌+◌, ℕ, List, [], ◌∷◌, ◌++◌, drop, length, take}
use Rattle.std.specs.List.{flat_map}
use Rattle.sky_base_law.specs.Tasks.{Each}
use Rattle.sky_frozen_bytes.specs.Codes.{NoneAs}
use Rattle.ciel_log_records.specs.Records.{in_file}
use Rattle.ciel_log_read.specs.Recorded.{FitsBlock}

-- at this place of the file these bytes stand behind their length, and what comes then begins at the next place
pub record RecordAt (log : List ℕ) (at : ℕ) (bytes : List ℕ) (next : ℕ) : Type 0 where
  pub fits : FitsBlock bytes
  pub here : drop at log ≡ in_file bytes ++ drop next log
  pub behind : next ≡ at + 4 + length bytes

-- nothing stands there behind its length: the file has ended, or what comes is cut
abbrev pub NoRecordAt : List ℕ → ℕ → Type 0
NoRecordAt log at = NoneAs in_file FitsBlock (drop at log)

-- from this place on these stand there, one behind the other, and then nothing does
abbrev pub HasRecords : List ℕ → ℕ → List (List ℕ) → Type 0
HasRecords log at [] = NoRecordAt log at
HasRecords log at (bytes ∷ more) = (next : ℕ) × RecordAt log at bytes next × HasRecords log next more

-- they are told in one way
abbrev pub OneReading : Type 0
OneReading = (log : List ℕ) (at : ℕ) (a b : List (List ℕ)) → HasRecords log at a → HasRecords log at b → a ≡ b

-- in a file of records that is cut anywhere stand the first ones of them
abbrev pub CutFile : Type 0
CutFile =
    (records : List (List ℕ)) (n : ℕ) → Each FitsBlock records
    → (whole rest : List (List ℕ)) × (whole ++ rest ≡ records) × HasRecords (take n (flat_map in_file records)) 0 whole
