use Rattle.sky_base_law.proofs.BatchLaw.{acts_batched}
use Rattle.sky_base_law.proofs.law.outputs_are_made_together.Goals as goal

pub returns : goal.returns
returns c = record { batches = λ job around n t. acts_batched job around n t }
