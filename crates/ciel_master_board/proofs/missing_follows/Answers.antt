use Rattle.ciel_master_board.proofs.MissesFollowed.{missed_follows}
use Rattle.ciel_master_board.proofs.missing_follows.Goals as goal

pub returns : goal.returns
returns g c =
    record {
      missed = λ s is h b sound f going x o k is_out is_open order name loss fits. missed_follows s is h b sound f x o k is_out is_open
          order going name loss fits;
    }
