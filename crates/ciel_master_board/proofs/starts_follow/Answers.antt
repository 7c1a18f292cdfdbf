use Rattle.ciel_master_board.proofs.FollowsLemmas.{start_follows, table_holds}
use Rattle.ciel_master_board.proofs.InitialState.{opened_follows}
use Rattle.ciel_master_board.proofs.starts_follow.Goals as goal

pub returns : goal.returns
returns g c =
    record {
      opened = λ s is p main named e. opened_follows s is p main named e;
      holds = λ s is h b sound f going. table_holds s is h b sound f;
      started = λ s is h b sound f going x w r i. start_follows s is h b sound f going x w r i;
    }
