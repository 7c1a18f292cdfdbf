use Rattle.sky_base.specs.JobView.{job_view}
use Rattle.ciel_flow_work.specs.Flowing.{source_of}
use Rattle.ciel_flow.proofs.begin.stream_of.Given as goal

abbrev pub ghosts-stream : goal.ghosts-stream
ghosts-stream a = record { source = source_of (job_view a.of.now).inputs a.inputs.now.items a.executor.now a.args.now a.outputs a.index }
