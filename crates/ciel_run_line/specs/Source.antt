-- The bytes of a script over inputs: what its job comes to.
use Rattle.std.specs.Prelude.{ℕ, List}
use Rattle.sky_base.specs.See.{Answered, Around, Desc, Job, Means, Never}
use Rattle.sky_base.specs.Tree.{Script}
use Rattle.sky_parse.specs.Source.{IsScript}
use Rattle.sky_base.specs.KitView.{Gives}
use Rattle.ciel_json.specs.Around.{json_around}
use Rattle.ciel_run_load.specs.Line.{Input, keys_of}
use Rattle.sky_plain.specs.Needs.{Chain, MakesMany}

-- the job of a script over inputs
abbrev pub job_of : Script → List Input → Job
job_of script inputs = record { script = script; inputs = inputs }

-- executors give this, and data is JSON
abbrev pub around : Gives → Around
around g = json_around g

-- the bytes are a script, and this is so of its job over the inputs
abbrev pub OfJob : List ℕ → List Input → (Job → Type 0) → Type 0
OfJob source inputs P = (script : Script) × IsScript source (keys_of inputs) script × P (job_of script inputs)

-- the job means this answer
abbrev pub IsAnswer : Gives → List ℕ → List Input → Answered → Type 0
IsAnswer g source inputs answer = OfJob source inputs (λ job. Means job (around g) answer)

-- the job never means one
abbrev pub HasNone : Gives → List ℕ → List Input → Type 0
HasNone g source inputs = OfJob source inputs (λ job. Never job (around g))

-- the job has a chain of so many descriptions, each waited for by the one before it
abbrev pub HasChain : Gives → List ℕ → List Input → ℕ → Type 0
HasChain g source inputs n = OfJob source inputs (λ job. (d : Desc) × Chain job (around g) n d)

-- the job makes so many distinct descriptions
abbrev pub Makes : Gives → List ℕ → List Input → ℕ → Type 0
Makes g source inputs n = OfJob source inputs (λ job. MakesMany job (around g) n)

-- the bytes are a script
abbrev pub IsSource : List ℕ → List Input → Type 0
IsSource source inputs = OfJob source inputs (λ job. Unit {0})
