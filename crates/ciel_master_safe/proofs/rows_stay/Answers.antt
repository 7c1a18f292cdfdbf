use Rattle.ciel_master_safe.proofs.BoardGrowth.{accepted_rows, lost_rows, order_grows}
use Rattle.ciel_master_safe.proofs.rows_stay.Goals as goal

pub returns : goal.returns
returns c =
    record {
      accepted = λ digest b x spawned end n k. accepted_rows digest b x spawned end n k;
      lost = λ b w n k. lost_rows b w n k;
      order = λ digest t u order k h. order_grows digest t u order k h;
    }
