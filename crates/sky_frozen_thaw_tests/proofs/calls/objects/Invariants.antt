-- The objects so far are sound in every script.
use Rattle.sky_base.specs.Tree.{Script}
use Rattle.sky_machine.specs.Onward.{AnswersSound}
use Rattle.sky_frozen_thaw_tests.proofs.calls.objects.Given as goal

abbrev pub invariant-loop-name : goal.invariant-loop-name
invariant-loop-name l = (sc : Script) → AnswersSound sc l.objects.items
