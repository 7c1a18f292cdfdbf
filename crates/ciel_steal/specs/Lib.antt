pub use Rattle.ciel_crew_work.specs.Onward
