-- What was counted so far, and what is left.
use Rattle.std.proofs.Common.{◌≤◌}
use Rattle.ciel_look_tasks.specs.declared.scene.Run.{Run}
use Rattle.ciel_look_text.proofs.Sums.{CountLeft}
use Rattle.ciel_look_text.proofs.sum.again_of.Given as goal

abbrev pub invariant-loop-run : goal.invariant-loop-run
invariant-loop-run l =
    record {
      count : CountLeft (λ (r : Run). r.again) l.runs l.again l.run-index;
      few : l.again ≤ l.run-index;
    }
