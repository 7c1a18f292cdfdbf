-- All are known exactly where those that are left are.
use Rattle.std.proofs.Common.{drop}
use Rattle.sky_base.specs.declared.object.Named.{Named}
use Rattle.ciel_journal.specs.Job.{Each}
use Rattle.ciel_log_fits.specs.Known.{NamesInDesc, knows}
use Rattle.ciel_log_fits.proofs.known.in_all.Given as goal

abbrev pub invariant-loop-named : goal.invariant-loop-named
invariant-loop-named g l =
    (Each (λ (n : Named). NamesInDesc (knows l.after) n.desc) (drop l.named-index l.spawned)
    → Each (λ (n : Named). NamesInDesc (knows l.after) n.desc) l.spawned)
    × (Each (λ (n : Named). NamesInDesc (knows l.after) n.desc) l.spawned
    → Each (λ (n : Named). NamesInDesc (knows l.after) n.desc) (drop l.named-index l.spawned))
