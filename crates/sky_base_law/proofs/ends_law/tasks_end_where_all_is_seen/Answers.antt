use Rattle.sky_base_law.proofs.Nexts.{task_ends}
use Rattle.sky_base_law.proofs.ends_law.tasks_end_where_all_is_seen.Goals as goal

pub returns : goal.returns
returns c = record { ends = λ job around n t h. task_ends job around n t h }
