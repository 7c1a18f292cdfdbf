-- What the outputs of an executor task are seen as.
use Rattle.std.specs.Prelude.{ℕ, suc, List, Option}
use Rattle.sky_base.specs.Val.{out, refs}
use Rattle.sky_base.specs.Name.{low}
use Rattle.sky_base.specs.Res.{Object}
use Rattle.sky_base.specs.See.{Val, Job, Around}
use Rattle.ciel_json.specs.Text.{text_of as writes}
use Rattle.sky_base_law.specs.NamesLaws.{Tag, no_name}
use Rattle.sky_base_known.specs.Walk.{Row}
use Rattle.sky_base_waves.specs.Seen.{Sees, SeenAsKnown, WritesAlike}
use Rattle.sky_base_exec.specs.Perform.{made, output_of}

-- where values are written as JSON, and each reference of the arguments is seen as the object that is known for its name: what the task
-- makes over names is, output by output, what the description is seen as
abbrev pub OutputsAreSeen : Type 0
OutputsAreSeen =
    (job : Job) (around : Around) (tag : Tag) (n : ℕ) (knows : Row → Option (Object (List ℕ))) (x : List ℕ) (a : Val) (c i : ℕ)
    → WritesAlike tag around → SeenAsKnown job around tag n knows (refs a)
    → Sees job around tag (suc n) (out x a c i) (output_of (made around.runs writes knows x (low no_name tag a) c) i)
