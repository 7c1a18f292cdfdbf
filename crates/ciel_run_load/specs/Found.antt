-- What stands at the paths of a line.
use Rattle.std.specs.Prelude.{◌≡◌, ◌<◌, ◌≤◌, ◌⊎◌, ℕ, List, [], ◌∷◌, Option, Some, IfSome, Contains, length, map}
use Rattle.sky_base.specs.Tree.{Script}
use Rattle.sky_parse.specs.Source.{IsScript}
use Rattle.ciel_run_load.specs.Line.{Input, Line, keys_of, path_in}

-- the greatest number of bytes of a script
abbrev pub limit : ℕ
limit = 1048576

-- and of an input
abbrev pub input_limit : ℕ
input_limit = 16777216

-- each of these inputs, a name and bytes, is what stands at the path of that name
abbrev pub HoldAll : (List ℕ → Option (List ℕ)) → List (List ℕ × List ℕ) → List Input → Type 0
HoldAll content [] [] = Unit {0}
HoldAll content (i ∷ is) (b ∷ bs) = (b.0 ≡ i.0) × (content i.1 ≡ Some b.1) × HoldAll content is bs
HoldAll content [] (b ∷ bs) = ⊥
HoldAll content (i ∷ is) [] = ⊥

-- files have the script of a line, and its inputs
pub record Holds (content : List ℕ → Option (List ℕ)) (line : Line) (source : List ℕ) (inputs : List Input) : Type 0 where
  pub source_there : content line.script ≡ Some source
  pub inputs_there : HoldAll content line.inputs inputs

-- no input has more bytes than the limit
abbrev pub AllWithin : List Input → Type 0
AllWithin [] = Unit {0}
AllWithin (b ∷ bs) = (length b.1 ≤ input_limit) × AllWithin bs

-- neither the script nor an input has more
abbrev pub Fits : List ℕ → List Input → Type 0
Fits source inputs = (length source ≤ limit) × AllWithin inputs

-- ---- what is too long

-- a file has more bytes than the limit, where files tell it
abbrev pub PassesIfTold : Option (List ℕ) → ℕ → Type 0
PassesIfTold told most = IfSome told (λ file. most < length file)

-- the script has more bytes than its limit, or an input than that of inputs, where files tell it
abbrev pub IsOver : (List ℕ → Option (List ℕ)) → Line → List ℕ → ℕ → Type 0
IsOver content line path at =
    ((path ≡ line.script) × (at ≡ limit) × PassesIfTold (content path) limit)
    ⊎ (Contains (map path_in line.inputs) path × (at ≡ input_limit) × PassesIfTold (content path) input_limit)

-- the first input that has more bytes than the limit stands at this path
abbrev pub IsFirstOver : List (List ℕ × List ℕ) → List Input → List ℕ → Type 0
IsFirstOver [] bs path = ⊥
IsFirstOver (i ∷ is) [] path = ⊥
IsFirstOver (i ∷ is) (b ∷ bs) path =
    ((path ≡ i.1) × (input_limit < length b.1)) ⊎ ((length b.1 ≤ input_limit) × IsFirstOver is bs path)

-- the script is too long, or it is a script and the first input that is too long stands at this path
abbrev pub IsTooLong : Line → List ℕ → List Input → List ℕ → ℕ → Type 0
IsTooLong line source inputs path at =
    ((path ≡ line.script) × (at ≡ limit) × (limit < length source))
    ⊎ ((length source ≤ limit) × ((script : Script) × IsScript source (keys_of inputs) script) × (at ≡ input_limit)
    × IsFirstOver line.inputs inputs path)
