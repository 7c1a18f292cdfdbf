use Rattle.sky_base_law.proofs.TaskLaw.{task_ends, task_halts, task_makes}
use Rattle.sky_base_law.proofs.law.runs_go_on.Goals as goal

pub returns : goal.returns
returns c =
    record {
      rest = λ job around seen f ca vs j h os at
          is. record {
            ends = task_ends job around seen f ca vs j h os at is;
            makes = task_makes job around seen f ca vs j h os at is;
            waits =
                task_halts job around seen f ca vs j h os at is;
          };
    }
