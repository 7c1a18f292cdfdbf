use Rattle.std.proofs.Common.{◌≡◌, Some}
use Rattle.sky_base.specs.TreeView.{ands_view}
use Rattle.sky_base_law.specs.Nodes.{node_at}
use Rattle.sky_base_law.specs.Opened.{HasAnds}
use Rattle.sky_state.specs.Table.{on_by, past_and}
use Rattle.sky_frozen_fits.proofs.walk.joins_after.Given as goal

abbrev pub invariant-loop-passed : goal.invariant-loop-passed
invariant-loop-passed l = record {
  place : on_by past_and l._passed (l.second, ands_view l.joins) ≡ Some (l.next, ands_view l.rest);
  has : HasAnds (λ i. node_at l.code i) (ands_view l.rest) l.next;
}
