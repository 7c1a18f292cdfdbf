-- The outputs so far.
use Rattle.std.proofs.Common.{◌≡◌, ◌≤◌, ◌-◌, ◌∷◌, ℕ, List}
use Rattle.sky_base.specs.Val.{Desc}
use Rattle.ciel_look_tasks.specs.ReportView.{TellsOutputs}
use Rattle.ciel_look_tasks.specs.Reports.{outputs}
use Rattle.ciel_look_tasks.proofs.make.outputs_of.Given as goal

abbrev pub invariant-loop-index : goal.invariant-loop-index
invariant-loop-index l =
    record {
      names : (ds : List (Desc (List ℕ))) → TellsOutputs l.book.short l.book.outputs ds
          → l.names.items ≡ l.task ∷ outputs l.book.short ds l.task 1 (l.index - 1);
      first : 1 ≤ l.index;
      most : l.index - 1 ≤ l.count - 1;
    }
