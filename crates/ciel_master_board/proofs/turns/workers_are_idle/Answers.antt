use Rattle.ciel_master_board.proofs.StartChoices.{idle_is_listed, none_can_run, picked_can_start, some_is_idle}
use Rattle.ciel_master_board.proofs.turns.workers_are_idle.Goals as goal

pub returns : goal.returns
returns g c =
    record {
      listed = λ b w. idle_is_listed b w;
      some = λ b none w l here e. some_is_idle b none w l here e;
      picked = λ b x w p. picked_can_start b x w p;
      none = λ digest at b sound none x r. none_can_run digest at b sound none x r;
    }
