-- The text that is read is the generator's.
use Rattle.std.proofs.Common.{ℕ, List, subst}
use Rattle.sky_parse.specs.Source.{IsScript}
use Rattle.ciel_run_load.specs.Generated.{generator}
use Rattle.ciel_run_load.specs.Loading.{RefusedSo}
use Rattle.ciel_run_load.proofs.generated.generated_job.Goals as goal

pub returns-in-Err-clause-refused : goal.returns-in-Err-clause-refused
returns-in-Err-clause-refused c = subst (λ (bytes : List ℕ). RefusedSo bytes c.in-Err.no) c.as_bytes.ensures.value c.in-Err.ensures.refused

pub returns-clause-script : goal.returns-clause-script
returns-clause-script c =
    let is = subst (λ (bytes : List ℕ). IsScript bytes c.in-Ok.keys c.in-Ok-script.script) c.as_bytes.ensures.value c.in-Ok-script.ensures.script in
    (subst (λ (ks : List (List ℕ)). IsScript generator ks c.in-Ok-script.script) c.in-Ok.ensures is, c.in-Ok-inputs.ensures)
