-- Outputs as they are written.
use Rattle.std.specs.Prelude.{ℕ, nat_lt, List, [], ◌∷◌, ◌++◌, length, map, Option, Some, None, Ok, Err, if◌then◌else◌}
use Rattle.sky_base.specs.declared.fault.FaultKind.TheVariants.{TooLarge}
use Rattle.line_kit.specs.Gives.{Answer}

-- the bytes, unless an output can't have so many
unfoldable pub capped : List ℕ → Option (List ℕ)
capped bytes = if nat_lt 67108864 (length bytes) then None else Some bytes

-- the output with the piece behind it
unfoldable pub extended : Option (List ℕ) → List ℕ → Option (List ℕ)
extended None piece = None
extended (Some bytes) piece = capped (bytes ++ piece)

-- an output that is written to its end
abbrev pub finished : Option (List ℕ) → Option (List ℕ)
finished output = extended output []

abbrev pub with_first : Option (List ℕ) → Answer → Answer
with_first None answer = Err TooLarge
with_first (Some bytes) (Ok more) = Ok (bytes ∷ more)
with_first (Some bytes) (Err kind) = Err kind

-- the outputs' bytes, or TooLarge
abbrev pub answered : List (Option (List ℕ)) → Answer
answered [] = Ok []
answered (output ∷ more) = with_first output (answered more)

abbrev pub closed : List (Option (List ℕ)) → Answer
closed outputs = answered (map finished outputs)
