use Rattle.ciel_master_board.proofs.EndsLemmas.{none_circles, none_clashes, none_overflows}
use Rattle.ciel_master_board.proofs.turns.modest_jobs_answer.Goals as goal

pub returns : goal.returns
returns g c =
    record {
      clash = λ s is p J m kept given k. none_clashes s is p J m kept given k;
      overflow = λ s is p J m held given k. none_overflows s is p J m held given k;
      circle = λ s is p J m names k. none_circles s is p J m names k;
    }
