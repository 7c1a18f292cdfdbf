-- What a job is read from: the path of a script, and inputs, each with a name and a path.
use Rattle.std.specs.Prelude.{List, ◌∷◌, ℕ, map}

pub record Line : Type 0 where
  pub script : List ℕ
  pub inputs : List (List ℕ × List ℕ)

abbrev pub name_in : List ℕ × List ℕ → List ℕ
name_in i = i.0

abbrev pub path_in : List ℕ × List ℕ → List ℕ
path_in i = i.1

-- the paths, the script's first
abbrev pub paths_of : Line → List (List ℕ)
paths_of line = line.script ∷ map path_in line.inputs

-- an input: its name and its bytes
abbrev pub Input : Type 0
Input = List ℕ × List ℕ

abbrev pub keys_of : List Input → List (List ℕ)
keys_of inputs = map (λ i. i.0) inputs
