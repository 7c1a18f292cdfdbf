use Rattle.std.proofs.Common.{◌≡◌, ◌+◌, length}
use Rattle.sky_base.specs.Tree.{exps_nodes}
use Rattle.sky_base.specs.TreeView.{exps_view}
use Rattle.sky_base_law.specs.Nodes.{node_at}
use Rattle.sky_base_law.specs.Opened.{HasExps}
use Rattle.sky_machine_numbers.proofs.find_exp.after_args.Given as goal

abbrev pub invariant-loop-arg : goal.invariant-loop-arg
invariant-loop-arg l = record {
  has : HasExps (λ i. node_at l.code i) (exps_view l.rest) l.node;
  end : l.node + exps_nodes (exps_view l.rest) ≡ l.fn.node + exps_nodes (exps_view l.args);
}

abbrev pub decreases-loop-arg : goal.decreases-loop-arg
decreases-loop-arg l = length l.rest
