-- What is written of an answer.
use Rattle.std.specs.Prelude.{ℕ, List, [], ◌∷◌, ◌++◌, Option, Some, None, codes, decimal, length}
use Rattle.std.specs.List.{concat}
use Rattle.hex.specs.Hex.{encode_lower}
use Rattle.line_kit.specs.Lines.{lines}
use Rattle.sha1.specs.Sha1.{sha1}

-- of the answer of a generated job of so many lines: their number, that of the lines of the answer, and its mark
abbrev pub summary : ℕ → List ℕ → List ℕ
summary count a =
    concat (codes "lines " ∷ decimal count ∷ codes " kinds " ∷ decimal (length (lines a)) ∷ codes " mark " ∷ [])
    ++ (encode_lower (sha1 a) ++ codes "\n")

-- the answer itself, or its summary
abbrev pub output_of : (generate : Option ℕ) → List ℕ → List ℕ
output_of None a = a
output_of (Some count) a = summary count a
