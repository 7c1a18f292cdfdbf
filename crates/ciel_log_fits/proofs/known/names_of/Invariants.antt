-- The names so far, and those that are left, are all.
use Rattle.std.proofs.Common.{◌≡◌, ℕ, List, ◌||◌, drop}
use Rattle.std.specs.BTreeSet.{contains}
use Rattle.sky_base.specs.NameOrder.{name_cmp}
use Rattle.ciel_log_fits.specs.Known.{is_named}
use Rattle.ciel_log_fits.proofs.known.names_of.Given as goal

abbrev pub invariant-loop-named : goal.invariant-loop-named
invariant-loop-named l =
    (n : List ℕ) → (contains name_cmp l.names n || is_named n (drop l.named-index l.spawned)) ≡ is_named n l.spawned
