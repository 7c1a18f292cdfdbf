use Rattle.sky_state.specs.StateView.{stand_of}
use Rattle.sky_machine_tests.specs.Rows.{FitsUnless}
use Rattle.sky_machine_tests.proofs.waits.ends.Given as goal

abbrev pub invariant-loop-stop : goal.invariant-loop-stop
invariant-loop-stop l = FitsUnless l.script.code (stand_of l.state) l.step
