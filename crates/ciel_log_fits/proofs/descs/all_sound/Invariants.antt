-- All are sound exactly where those that are left are.
use Rattle.std.proofs.Common.{drop}
use Rattle.sky_base.specs.declared.object.Named.{Named}
use Rattle.sky_base_law.specs.Sound.{SoundDesc}
use Rattle.ciel_journal.specs.Job.{Each}
use Rattle.ciel_master_board.specs.Reports.{named_view}
use Rattle.ciel_log_fits.proofs.descs.all_sound.Given as goal

abbrev pub invariant-loop-named : goal.invariant-loop-named
invariant-loop-named l =
    (Each (λ (n : Named). SoundDesc l.script (named_view n)) (drop l.named-index l.spawned)
    → Each (λ (n : Named). SoundDesc l.script (named_view n)) l.spawned)
    × (Each (λ (n : Named). SoundDesc l.script (named_view n)) l.spawned
    → Each (λ (n : Named). SoundDesc l.script (named_view n)) (drop l.named-index l.spawned))
