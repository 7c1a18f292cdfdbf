-- What a flow was told, and what of its outputs can be had before its inputs end.
use Rattle.std.specs.Prelude.{ℕ, zero, suc, ◌<◌, ◌≤◌, List, [], ◌∷◌, ◌++◌, length, take, map, count_by, replicate, Option, Some}
use Rattle.std.specs.List.{flat_map}
use Rattle.sky_base.specs.Val.{Val, Pairs, no_pairs, dict}
use Rattle.line_kit.specs.Lines.{all_lines, lines, joined, with_text, is_feed}
use Rattle.line_kit.specs.Words.{words}
use Rattle.line_kit.specs.Parts.{dealt}
use Rattle.line_kit.specs.Gives.{input}
use Rattle.line_kit.specs.Table.{executor_of, text_of, lines_of}
use Rattle.line_kit.specs.declared.executor.Executor.{Executor}
use Rattle.line_kit.specs.declared.executor.Executor.TheVariants.{Cat, Grep, Words, Deal, Head}

-- the executor's name, its arguments, the number of its outputs, the bytes of each input so far, the input that was
-- fed last, and for each output the bytes that were drained
pub record Told : Type 0 where
  pub executor : List ℕ
  pub args : Val (List ℕ)
  pub outputs : ℕ
  pub fed : List (List ℕ)
  pub last : ℕ
  pub drained : List (List ℕ)

-- at the beginning nothing is fed and nothing drained
abbrev pub opened : List ℕ → Val (List ℕ) → ℕ → ℕ → Told
opened executor args inputs outputs =
    record { executor = executor; args = args; outputs = outputs; fed = replicate inputs []; last = 0; drained = replicate outputs [] }

-- the inputs with a piece behind the bytes of one of them
abbrev pub grow : ℕ → List ℕ → List (List ℕ) → List (List ℕ)
grow i piece [] = []
grow zero piece (x ∷ xs) = (x ++ piece) ∷ xs
grow (suc i) piece (x ∷ xs) = x ∷ grow i piece xs

-- there is such an input, and no later one was fed
abbrev pub CanFeed : Told → ℕ → Type 0
CanFeed t i = (t.last ≤ i) × (i < length t.fed)

-- a piece more of an input
abbrev pub fed_more : Told → ℕ → List ℕ → Told
fed_more t i piece =
    record { executor = t.executor; args = t.args; outputs = t.outputs; fed = grow i piece t.fed; last = i; drained = t.drained }

-- the lines that a line feed ends: as many as there are line feeds
abbrev pub ended_lines : List ℕ → List (List ℕ)
ended_lines bytes = take (count_by is_feed bytes) (lines bytes)

-- the settled lines: those of the inputs before the last one fed, and those of the last one that a line feed ends
abbrev pub settled_lines : ℕ → List (List ℕ) → List (List ℕ)
settled_lines last fed = all_lines (take last fed) ++ ended_lines (input fed last)

abbrev pub pairs_in : Val (List ℕ) → Pairs (List ℕ)
pairs_in (dict ps) = ps
pairs_in _ = no_pairs

-- what of the outputs these lines settle: for five executors the outputs of the table over these lines, whatever their
-- number of bytes; for every other one nothing
abbrev pub early_by : Option Executor → Pairs (List ℕ) → ℕ → List (List ℕ) → List (List ℕ)
early_by (Some Cat) args n ls = joined ls ∷ []
early_by (Some Grep) args n ls = joined (with_text (text_of args) ls) ∷ []
early_by (Some Words) args n ls = joined (flat_map words ls) ∷ []
early_by (Some Deal) args n ls = map joined (dealt n ls)
early_by (Some Head) args n ls = joined (take (lines_of args) ls) ∷ []
early_by _ args n ls = replicate n []

-- what can be had of the outputs now
abbrev pub early : Told → List (List ℕ)
early t = early_by (executor_of t.executor) (pairs_in t.args) t.outputs (settled_lines t.last t.fed)

-- all of it was drained
abbrev pub drained_more : Told → Told
drained_more t =
    record { executor = t.executor; args = t.args; outputs = t.outputs; fed = t.fed; last = t.last; drained = early t }
