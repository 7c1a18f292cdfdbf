-- The job that is generated: words are counted in eight parts.
use Rattle.std.specs.Prelude.{ℕ, List, [], ◌∷◌, codes}
use Rattle.ciel_run_load.specs.Lines.{generated}
use Rattle.ciel_run_load.specs.Line.{Input}

abbrev pub generator : List ℕ
generator =
    codes "parts = spawn_exec(\"split\", {\"in\": ref(\"lines\")}, 8);\ntallies = [];\nfor (p in parts) { tallies += spawn_exec(\"tally\", {\"in\": p}, 1)[0]; }\nreturn spawn_exec(\"sum\", {\"in\": tallies}, 1)[0];\n"

-- its one input
abbrev pub generated_inputs : ℕ → List Input
generated_inputs lines = (codes "lines", generated lines) ∷ []
