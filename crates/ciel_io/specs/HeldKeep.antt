-- Kept files in memory as contracts see them, and what a call leaves of them.
use Rattle.std.specs.Prelude.{◌+◌, ◌/◌, ◌++◌, ℕ, List, [], ◌∷◌, Option, Some, None, Bool, if◌then◌else◌, length, map, nat_le, take, option_map}
use Rattle.ciel_io.specs.declared.drawer.Way.{Way}
use Rattle.ciel_io.specs.declared.drawer.Way.TheVariants.{Behind, Instead}
use Rattle.ciel_io.specs.Faults.{next, is_listed}
use Rattle.ciel_io.specs.HeldFiles.{bytes_at}
use Rattle.ciel_io.specs.Kept.{Files, with_file}
use Rattle.ciel_io.specs.Rows.{space}

-- what is told: each path that was asked, with what stands there, and the paths of all calls
pub record KeptFiles : Type 0 where
  pub files : Files
  pub asked : List (List ℕ)

-- kept files of which no call fails
pub record HeldKeep : Type 0 where
  -- how much is told at most
  pub room : ℕ
  -- what they hold, as long as it fits the room
  pub told : Option KeptFiles

-- kept files of which some calls fail
pub record FailingKeep : Type 0 where
  pub held : HeldKeep
  -- the numbers of the calls that fail, from 1
  pub fails : List ℕ
  -- how many calls there were
  pub calls : ℕ
  -- how many calls have failed
  pub faults : ℕ

-- what the files and the paths asked take of the room: their bytes, and one for each path, file and call
abbrev pub taken : KeptFiles → ℕ
taken k = space (map (λ file. file.0) k.files) + space (map (λ file. file.1) k.files) + space k.asked

-- these, where they fit the room
abbrev pub fitting : ℕ → KeptFiles → Option KeptFiles
fitting room k = if nat_le (taken k) room then Some k else None

-- what a call leaves that changes what stands at a path so
abbrev pub changed : KeptFiles → List ℕ → (List ℕ → List ℕ) → KeptFiles
changed k path change = record {
  files = with_file k.files path (change (bytes_at k.files path));
  asked = k.asked ++ path ∷ [];
}

abbrev pub told_after : ℕ → Option KeptFiles → List ℕ → (List ℕ → List ℕ) → Option KeptFiles
told_after room None path change = None
told_after room (Some k) path change = fitting room (changed k path change)

abbrev pub after_call : HeldKeep → List ℕ → (List ℕ → List ℕ) → HeldKeep
after_call held path change = record held { told = told_after held.room held.told path change }

-- what stands at a path behind a call that puts a piece there
abbrev pub put_so : Way → List ℕ → List ℕ → List ℕ
put_so Behind piece old = old ++ piece
put_so Instead piece old = piece

-- whether the next call fails
abbrev pub is_failing : FailingKeep → Bool
is_failing keep = is_listed keep.fails (next keep.calls)

-- a call that fails handles the first half of the piece
abbrev pub handled : FailingKeep → List ℕ → List ℕ
handled keep piece = if is_failing keep then take (length piece / 2) piece else piece

abbrev pub after_failing_call : FailingKeep → List ℕ → (List ℕ → List ℕ) → FailingKeep
after_failing_call keep path change = record keep {
  held = after_call keep.held path change;
  calls = next keep.calls;
  faults = if is_failing keep then next keep.faults else keep.faults;
}

-- what is told of the files, and of the paths asked
abbrev pub files_of : HeldKeep → Option Files
files_of held = option_map (λ k. k.files) held.told

abbrev pub asked_of : HeldKeep → Option (List (List ℕ))
asked_of held = option_map (λ k. k.asked) held.told
