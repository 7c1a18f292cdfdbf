-- Files in memory as contracts see them, and what a read of them answers.
use Rattle.std.specs.Prelude.{◌+◌, ◌++◌, ℕ, List, [], ◌∷◌, bytes_eq, Option, Some, None, Bool, Result, Ok, Err, if◌then◌else◌, length, nat_lt}
use Rattle.std.specs.Prelude.{unwrap_or}
use Rattle.ciel_io.specs.declared.files.FileRefusal.{FileRefusal}
use Rattle.ciel_io.specs.declared.files.FileRefusal.TheVariants.{Failed, TooLong, Memory}
use Rattle.ciel_io.specs.Faults.{next, is_listed}

-- files that never fail
pub record HeldFiles : Type 0 where
  -- each file's path and bytes
  pub files : List (List ℕ × List ℕ)
  -- the paths asked so far
  pub asked : List (List ℕ)

-- files of which some reads fail
pub record FailingFiles : Type 0 where
  pub held : HeldFiles
  -- the numbers of the reads that fail, from 1
  pub fails : List ℕ
  -- how many reads have failed
  pub faults : ℕ

-- the bytes of the file at a path, where there is one; of two at one path the first counts
abbrev pub content_at : List (List ℕ × List ℕ) → List ℕ → Option (List ℕ)
content_at [] path = None
content_at (file ∷ files) path =
    if bytes_eq file.0 path then Some file.1 else content_at files path

-- the bytes of the file at a path, none where there is no such file
abbrev pub bytes_at : List (List ℕ × List ℕ) → List ℕ → List ℕ
bytes_at files path = unwrap_or (content_at files path) []

-- these bytes, unless they are more than the limit
abbrev pub within : ℕ → List ℕ → Result (List ℕ) FileRefusal
within limit bytes = if nat_lt limit (length bytes) then Err (TooLong limit) else Ok bytes

-- a file that isn't there fails
abbrev pub found_within : ℕ → Option (List ℕ) → Result (List ℕ) FileRefusal
found_within limit None = Err Failed
found_within limit (Some bytes) = within limit bytes

-- whether the next read fails by the list; a read that wanted memory wasn't counted
abbrev pub is_failing : FailingFiles → Bool
is_failing f = is_listed f.fails (length f.held.asked + 1)

-- what the next read answers, but for want of memory
abbrev pub read_answer : FailingFiles → List ℕ → ℕ → Result (List ℕ) FileRefusal
read_answer f path limit =
    if is_failing f then Err Failed else found_within limit (content_at f.held.files path)

abbrev pub with_path : HeldFiles → List ℕ → HeldFiles
with_path held path = record held { asked = held.asked ++ path ∷ [] }

-- the files after a read that gave this answer: for want of memory they are as they were
abbrev pub after_sure_read : {A : Type 0} → HeldFiles → List ℕ → Result A FileRefusal → HeldFiles
after_sure_read held path (Ok _) = with_path held path
after_sure_read held path (Err (TooLong _)) = with_path held path
after_sure_read held path (Err Failed) = with_path held path
after_sure_read held path (Err Memory) = held

abbrev pub after_read : {A : Type 0} → FailingFiles → List ℕ → Result A FileRefusal → FailingFiles
after_read f path (Ok _) = record f { held = with_path f.held path }
after_read f path (Err (TooLong _)) = record f { held = with_path f.held path }
after_read f path (Err Failed) = record f { held = with_path f.held path; faults = next f.faults }
after_read f path (Err Memory) = f
