-- All are elsewhere exactly where those that are left are.
use Rattle.std.proofs.Common.{drop}
use Rattle.ciel_journal.specs.Job.{Each}
use Rattle.ciel_log_fits.specs.Given.{IsElsewhere}
use Rattle.ciel_log_fits.proofs.given.all_elsewhere.Given as goal

abbrev pub invariant-loop-name : goal.invariant-loop-name
invariant-loop-name l =
    (Each (IsElsewhere l.order) (drop l.name-index l.names) → Each (IsElsewhere l.order) l.names)
    × (Each (IsElsewhere l.order) l.names → Each (IsElsewhere l.order) (drop l.name-index l.names))
