use Rattle.sky_machine_tests.specs.Rows.{SoundAnywhere}
use Rattle.sky_machine_tests.proofs.made.objects.Given as goal

abbrev pub invariant-loop-one : goal.invariant-loop-one
invariant-loop-one l = SoundAnywhere l.objects.items
