use Rattle.sky_base_law.proofs.TaskMade.{next_one, next_or_end}
use Rattle.sky_state.specs.Laws.{AtHand}
use Rattle.sky_state.proofs.law.next_is_one.Goals as goal

pub returns : goal.returns
returns c =
    λ job around S t j i k h. (λ g. next_one job around (AtHand S) t j i k h g, λ g. next_or_end job around (AtHand S) t j i h g)
