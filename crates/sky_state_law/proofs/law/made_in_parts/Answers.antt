use Rattle.sky_state_law.proofs.MadeSegments.{after_between, between_two}
use Rattle.sky_state_law.proofs.law.made_in_parts.Goals as goal

pub returns : goal.returns
returns c =
    record {
      parts = record {
        between = λ job around n t j k i le lk. between_two job around n t j k i le lk;
        after = λ job around n t j k le. after_between job around n t j k le;
      };
    }
