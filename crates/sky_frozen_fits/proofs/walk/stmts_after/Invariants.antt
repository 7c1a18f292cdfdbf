use Rattle.std.proofs.Common.{◌≡◌, Some}
use Rattle.sky_base.specs.StmtView.{stms_view}
use Rattle.sky_base_law.specs.Nodes.{node_at}
use Rattle.sky_base_law.specs.Opened.{HasStms}
use Rattle.sky_state.specs.Table.{on_by, past_stm}
use Rattle.sky_frozen_fits.proofs.walk.stmts_after.Given as goal

abbrev pub invariant-loop-passed : goal.invariant-loop-passed
invariant-loop-passed l = record {
  place : on_by past_stm l._passed (l.first, stms_view l.stmts) ≡ Some (l.next, stms_view l.rest);
  has : HasStms (λ i. node_at l.code i) (stms_view l.rest) l.next;
}
