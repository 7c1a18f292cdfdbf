use Rattle.std.proofs.Common.{◌≡◌, ◌≤◌, ℕ, List, length}
use Rattle.sky_base.specs.Val.{Vals}
use Rattle.sky_base.specs.Tree.{Place}
use Rattle.sky_base.specs.StmtView.{stms_view}
use Rattle.sky_base.specs.Res.{visits}
use Rattle.sky_base.specs.Eval.{World, eval_stms}
use Rattle.sky_base_law.specs.Opened.{HasStms}
use Rattle.sky_base_law.specs.Nodes.{node_at}
use Rattle.sky_base_scope.specs.Plain.{Pairs, Vars}
use Rattle.sky_machine_entries.specs.Config.{Run}
use Rattle.sky_machine_stmts.proofs.at_once.stmts_ahead.Given as goal

abbrev pub invariant-stmts : goal.invariant-stmts
invariant-stmts l = record {
  step : l.step ≤ l.next;
  has : HasStms (λ i. node_at l.code i) (stms_view l.rest) l.next;
  within : l.state.count ≤ visits;
  more : l.fn.state.count ≤ l.state.count;
  same : (w : World (List ℕ)) (body : List ℕ → Pairs → Vals (List ℕ) → Place → Vars → Run) → w.script ≡ l.code
      → eval_stms w body (stms_view l.fn.block.rest.now) l.fn.block.node l.fn.block.step l.fn.block.next l.fn.state
      ≡ eval_stms w body (stms_view l.rest) l.fn.block.node l.step l.next l.state;
}

abbrev pub decreases-stmts : goal.decreases-stmts
decreases-stmts l = length l.rest
