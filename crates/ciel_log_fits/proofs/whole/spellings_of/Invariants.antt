-- Those so far, and those that are left, are all.
use Rattle.std.proofs.Common.{◌≡◌, ℕ, List, ◌||◌, drop, map}
use Rattle.sky_base.specs.Names.{is_among}
use Rattle.ciel_master_board.specs.Reports.{named_view}
use Rattle.ciel_log_fits.specs.Whole.{is_output_in}
use Rattle.ciel_log_fits.proofs.whole.spellings_of.Given as goal

abbrev pub invariant-loop-named : goal.invariant-loop-named
invariant-loop-named l =
    (x : List ℕ) → (is_among x l.outputs || is_output_in x (map named_view (drop l.named-index l.spawned)))
    ≡ is_output_in x (map named_view l.spawned)
