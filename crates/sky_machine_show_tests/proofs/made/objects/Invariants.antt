use Rattle.sky_base.specs.ObjectView.{object_view}
use Rattle.sky_base_law.specs.Tasks.{Each}
use Rattle.sky_base_known.specs.Known.{KeptObject}
use Rattle.sky_machine_show_tests.proofs.made.objects.Given as goal

abbrev pub invariant-loop-one : goal.invariant-loop-one
invariant-loop-one l = Each (λ o. KeptObject (object_view o)) l.objects.items
