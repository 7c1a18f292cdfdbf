pub use Rattle.ciel_run_job.specs.Onward
