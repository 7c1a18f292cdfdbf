use Rattle.std.proofs.Common.{◌≡◌, ◌<◌, ◌≤◌, ◌++◌, ℕ, length}
use Rattle.ciel_flow_pieces.specs.Leads.{at}
use Rattle.ciel_flow_pieces.proofs.lead.add_all.Given as goal

abbrev pub invariant-loop-i : goal.invariant-loop-i
invariant-loop-i l = record {
  count : length l.kept.items ≡ length l.fn.kept.items;
  done : (k : ℕ) → k < l.i → at l.kept.items k ≡ at l.fn.kept.items k ++ at l.more k;
  left : (k : ℕ) → l.i ≤ k → at l.kept.items k ≡ at l.fn.kept.items k;
}
