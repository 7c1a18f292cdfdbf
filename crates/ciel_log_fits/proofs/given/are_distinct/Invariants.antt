-- No name of those behind stands twice, and they are in the set.
use Rattle.std.proofs.Common.{◌≡◌, ◌≤◌, ℕ, List, drop, length}
use Rattle.std.specs.BTreeSet.{contains}
use Rattle.std.specs.List.{IsDistinct}
use Rattle.sky_base.specs.NameOrder.{name_cmp}
use Rattle.sky_base.specs.Names.{is_among}
use Rattle.sky_base.specs.Val.{same_text}
use Rattle.ciel_log_fits.proofs.given.are_distinct.Given as goal

abbrev pub invariant-loop-i : goal.invariant-loop-i
invariant-loop-i l =
    ((n : List ℕ) → contains name_cmp l.behind n ≡ is_among n (drop l.i l.names))
    × IsDistinct same_text (drop l.i l.names) × (l.i ≤ length l.names)

abbrev pub decreases-loop-i : goal.decreases-loop-i
decreases-loop-i l = l.i
