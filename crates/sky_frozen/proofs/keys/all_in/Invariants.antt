-- All are keys exactly where those that are left are.
use Rattle.std.proofs.Common.{drop}
use Rattle.sky_base.specs.View.{pairs_of}
use Rattle.sky_frozen.specs.Keys.{AllIn}
use Rattle.sky_frozen.proofs.keys.all_in.Given as goal

abbrev pub invariant-loop-pair : goal.invariant-loop-pair
invariant-loop-pair l =
    (AllIn l.keys (pairs_of (drop l.pair-index l.pairs)) → AllIn l.keys (pairs_of l.pairs))
    × (AllIn l.keys (pairs_of l.pairs) → AllIn l.keys (pairs_of (drop l.pair-index l.pairs)))
