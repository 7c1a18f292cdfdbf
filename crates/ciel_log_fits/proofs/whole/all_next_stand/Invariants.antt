-- All have it exactly where those that are left have.
use Rattle.std.proofs.Common.{drop}
use Rattle.sky_base.specs.declared.object.Named.{Named}
use Rattle.ciel_journal.specs.Job.{Each}
use Rattle.ciel_master_board.specs.Reports.{named_view}
use Rattle.ciel_log_fits.specs.Whole.{NextStands}
use Rattle.ciel_log_fits.proofs.whole.all_next_stand.Given as goal

abbrev pub invariant-loop-named : goal.invariant-loop-named
invariant-loop-named l =
    (Each (λ (n : Named). NextStands l.outputs (named_view n)) (drop l.named-index l.spawned)
    → Each (λ (n : Named). NextStands l.outputs (named_view n)) l.spawned)
    × (Each (λ (n : Named). NextStands l.outputs (named_view n)) l.spawned
    → Each (λ (n : Named). NextStands l.outputs (named_view n)) (drop l.named-index l.spawned))
