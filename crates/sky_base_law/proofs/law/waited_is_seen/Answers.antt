use Rattle.sky_base_law.proofs.NeededEnds.{waits_all_seen}
use Rattle.sky_base_law.proofs.law.waited_is_seen.Goals as goal

pub returns : goal.returns
returns c = record { seen = λ job around n t j ds h w. waits_all_seen job around n t j ds h w }
