-- What a job of the code stands for.
use Rattle.sky_base.specs.See as logic
use Rattle.sky_base.specs.declared.job.Job.{Job}

abbrev pub job_view : Job → logic.Job
job_view job = record { script = job.script; inputs = job.inputs }
