-- None of those so far is a fault: the end is that of the rest.
use Rattle.std.proofs.Common.{◌≡◌, List, ℕ, drop, map}
use Rattle.sky_base.specs.Val.{Desc}
use Rattle.sky_base.specs.Eval.{exec_end}
use Rattle.sky_base.specs.ObjectView.{object_view}
use Rattle.sky_machine_waits.proofs.answer.first_fault.Given as goal

abbrev pub invariant-loop-object : goal.invariant-loop-object
invariant-loop-object l =
    (ds : List (Desc (List ℕ))) → exec_end ds (map object_view (drop l.object-index l.answers)) ≡ exec_end ds (map object_view l.answers)
