-- What a task makes is made in batches.
use Rattle.std.proofs.Common.{ℕ, zero, suc, List, [], Option, Some, None, arith}
use Rattle.sky_base.specs.Val.{call, out, input, known}
use Rattle.sky_base.specs.Tree.{nowhere}
use Rattle.sky_base.specs.Res.{bodies}
use Rattle.sky_base.specs.See.{Desc, Job, Around, run_of, world_of, start_st, see, wave, most_waves}
use Rattle.sky_base.specs.Needed.{Task, wave_refs}
use Rattle.sky_base_law.specs.Tasks.{Batched, acts_of, wait_then, waves_from}
use Rattle.sky_base_law.proofs.CountLaw.{batched, climbs_call}
use Rattle.sky_base_law.proofs.FormsLaw.{Within}

module _ (job : Job) (around : Around) (n : ℕ) where
  then_batched : (ds : Option (List Desc)) (rest : List _) → Batched [] rest → Batched [] (wait_then ds rest)
  then_batched None rest h = tt
  then_batched (Some ds) rest h = h

  waves_batched : (k j : ℕ) → Batched [] (waves_from job around n k j)
  unfolding waves_from
  waves_batched zero j = tt
  waves_batched (suc k) j = then_batched (wave_refs (wave job around n j)) (waves_from job around n k (suc j)) (waves_batched k (suc j))

  pub acts_batched : (t : Task) → Batched [] (acts_of job around n t)
  acts_batched Task.show = waves_batched most_waves 1
  acts_batched (Task.of (call f c vs)) =
      batched (world_of job.script around) (see job around n) (run_of job around f c vs) 0 []
      (climbs_call (world_of job.script around) bodies f c vs nowhere 0 start_st begun)
    where
      begun : Within (world_of job.script around) 0 start_st
      begun = (omega arith, omega arith)
  acts_batched (Task.of (out x v m i)) = tt
  acts_batched (Task.of (input k)) = tt
  acts_batched (Task.of (known b)) = absurd b
