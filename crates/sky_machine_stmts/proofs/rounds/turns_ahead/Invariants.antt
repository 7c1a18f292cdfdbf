use Rattle.std.proofs.Common.{◌≡◌, ◌≤◌, ◌-◌, ℕ, List}
use Rattle.sky_base.specs.TreeView.{at, exp_view}
use Rattle.sky_base.specs.Res.{visits}
use Rattle.sky_base.specs.Eval.{World, go_while, body_at}
use Rattle.sky_machine_stmts.proofs.rounds.turns_ahead.Given as goal

abbrev pub invariant-turns : goal.invariant-turns
invariant-turns l = record {
  within : l.state.count ≤ visits;
  more : l.fn.state.count ≤ l.state.count;
  same : (w : World (List ℕ)) (d : ℕ) → w.script ≡ l.code
      → go_while w (body_at w d) l.of.node l.of.block (at l.of.line l.of.col) (exp_view l.of.test.now) l.of.body.now l.fn.state
      ≡ go_while w (body_at w d) l.of.node l.of.block (at l.of.line l.of.col) (exp_view l.of.test.now) l.of.body.now l.state;
}

abbrev pub decreases-turns : goal.decreases-turns
decreases-turns l = visits - l.state.count
