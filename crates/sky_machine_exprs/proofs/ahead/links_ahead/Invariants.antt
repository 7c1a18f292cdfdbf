use Rattle.std.proofs.Common.{◌≡◌, ◌≤◌, ℕ, List}
use Rattle.sky_base.specs.Kept.{Kept}
use Rattle.sky_base.specs.Val.{Vals}
use Rattle.sky_base.specs.View.{view}
use Rattle.sky_base.specs.Tree.{Place, links_nodes}
use Rattle.sky_base.specs.Res.{visits}
use Rattle.sky_base.specs.Eval.{World, eval_links}
use Rattle.sky_base_law.specs.Opened.{HasLinks}
use Rattle.sky_base_law.specs.Nodes.{node_at}
use Rattle.sky_base_scope.specs.Plain.{Pairs, Vars}
use Rattle.sky_machine_code.specs.Shapes.{operands_view}
use Rattle.sky_machine_entries.specs.Config.{Run}
use Rattle.sky_machine_exprs.proofs.ahead.links_ahead.Given as goal

abbrev pub invariant-links : goal.invariant-links
invariant-links l = record {
  step : l.step ≤ l.next;
  links : HasLinks (λ i. node_at l.code i) (operands_view l.rest) l.next;
  kept : Kept (view l.value);
  within : l.state.count ≤ visits;
  more : l.fn.state.count ≤ l.state.count;
  same : (w : World (List ℕ)) (body : List ℕ → Pairs → Vals (List ℕ) → Place → Vars → Run) → w.script ≡ l.code
      → eval_links w body (operands_view l.fn.chain.rest) l.fn.chain.node l.fn.chain.step l.fn.chain.next (view l.fn.chain.value) l.fn.state
      ≡ eval_links w body (operands_view l.rest) l.fn.chain.node l.step l.next (view l.value) l.state;
}

abbrev pub decreases-links : goal.decreases-links
decreases-links l = links_nodes (operands_view l.rest)
