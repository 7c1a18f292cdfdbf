-- What was summed up so far, and what is left.
use Rattle.std.proofs.Common.{◌≤◌, ◌-◌, ◌^◌}
use Rattle.ciel_look_tasks.specs.SceneView.{order_view}
use Rattle.ciel_look_tasks.specs.declared.scene.Run.{Run}
use Rattle.ciel_look_text.specs.Text.{made_of}
use Rattle.ciel_look_text.proofs.Sums.{SumLeft}
use Rattle.ciel_look_text.proofs.sum.bytes_of.Given as goal

abbrev pub invariant-loop-run : goal.invariant-loop-run
invariant-loop-run l =
    record {
      left : SumLeft (λ (r : Run). made_of (order_view r)) l.runs l.bytes l.run-index;
      small : l.bytes ≤ 2 ^ 64 - 1;
    }
