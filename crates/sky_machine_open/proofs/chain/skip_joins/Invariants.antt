use Rattle.std.proofs.Common.{◌≡◌}
use Rattle.sky_base.specs.TreeView.{ands_view}
use Rattle.sky_base_law.specs.Nodes.{node_at}
use Rattle.sky_base_law.specs.Opened.{HasAnds, next_and, times}
use Rattle.sky_machine_open.proofs.chain.skip_joins.Given as goal

abbrev pub invariant-loop-passed : goal.invariant-loop-passed
invariant-loop-passed l = record {
  place : times next_and l._passed (l.second, ands_view l.joins) ≡ (l.next, ands_view l.rest);
  has : HasAnds (λ i. node_at l.code i) (ands_view l.rest) l.next;
}
