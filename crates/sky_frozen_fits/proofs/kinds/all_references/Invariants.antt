-- All are references exactly where those that are left are.
use Rattle.std.proofs.Common.{length}
use Rattle.sky_base.specs.View.{vals_of}
use Rattle.sky_state.specs.Fits.{AllReferences}
use Rattle.sky_frozen_fits.proofs.kinds.all_references.Given as goal

abbrev pub invariant-loop-value : goal.invariant-loop-value
invariant-loop-value l = record {
  all : AllReferences (vals_of l.rest) → AllReferences (vals_of l.values);
  left : AllReferences (vals_of l.values) → AllReferences (vals_of l.rest);
}

abbrev pub decreases-loop-value : goal.decreases-loop-value
decreases-loop-value l = length l.rest
