use Rattle.std.proofs.Common.{◌≡◌}
use Rattle.ciel_log_replay.specs.Steps.{while_out}
use Rattle.ciel_log_replay.proofs.Swept.{swept}
use Rattle.ciel_log_replay.proofs.losses.drop_closed.Given as goal

abbrev pub invariant-loop-slot : goal.invariant-loop-slot
invariant-loop-slot g l = l.out ≡ swept (while_out l.master.board) l.slot-index l.fn.out
