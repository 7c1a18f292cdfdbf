use Rattle.sky_frozen_bytes.proofs.Parts.{one_state}
use Rattle.sky_frozen_bytes.proofs.law.states_have_one_spelling.Goals as goal

pub returns : goal.returns
returns c = one_state
