use Rattle.sky_state.specs.StateView.{stand_of}
use Rattle.sky_machine_tests.specs.Rows.{FitsUnless}
use Rattle.sky_machine_tests.proofs.kinds.ends.Given as goal

abbrev pub invariant-loop-waits : goal.invariant-loop-waits
invariant-loop-waits l = FitsUnless l.script.code (stand_of l.state) l.step
