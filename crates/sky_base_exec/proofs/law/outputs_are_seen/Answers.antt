use Rattle.ciel_json.specs.Text.{text_of as writes}
use Rattle.sky_base_exec.proofs.Lowered.{sees_out}
use Rattle.sky_base_exec.proofs.law.outputs_are_seen.Goals as goal

pub returns : goal.returns
returns c =
    record {
      outputs = λ job around tag n knows x a z i alike seen. sees_out job around (λ v. writes v) tag alike n knows x a z i seen;
    }
