use Rattle.sky_state_law.proofs.Before.{seen_before}
use Rattle.sky_state_law.proofs.law.waits_before_are_seen.Goals as goal

pub returns : goal.returns
returns c = record { seen = λ job around n t j a s i ds lt w. seen_before job around n t j a s i ds lt w }
