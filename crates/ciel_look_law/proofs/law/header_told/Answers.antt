use Rattle.ciel_look_law.proofs.Header.{header_told}
use Rattle.ciel_look_law.proofs.law.header_told.Goals as goal

pub returns : goal.returns
returns c = header_told
