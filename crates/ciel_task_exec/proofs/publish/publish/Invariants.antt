use Rattle.std.proofs.Common.{◌≡◌, length}
use Rattle.sky_base.specs.View.{view}
use Rattle.sky_base_exec.specs.Perform.{listed}
use Rattle.ciel_task_exec.specs.Outputs.{OutputsFrom}
use Rattle.ciel_task_exec.proofs.publish.publish.Given as goal

abbrev pub invariant-loop-index : goal.invariant-loop-index
invariant-loop-index g l = record {
  many : length l.published.items ≡ l.index;
  so : OutputsFrom (g.N.Namer.digest l.namer) l.shelves l.worker l.executor (view l.args) l.outputs (listed l.made) 0 l.published.items;
}
