-- The state after the draws so far.
use Rattle.std.proofs.Common.{◌≡◌}
use Rattle.ciel_journal.specs.Turns.{state_after}
use Rattle.ciel_run_drive.proofs.draws.state_after.Given as goal

abbrev pub invariant-loop-draw : goal.invariant-loop-draw
invariant-loop-draw l = l.state ≡ state_after l.seed l._draw
