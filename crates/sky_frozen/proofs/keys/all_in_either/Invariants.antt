-- All are keys exactly where those that are left are.
use Rattle.std.proofs.Common.{drop}
use Rattle.sky_base.specs.View.{pairs_of}
use Rattle.sky_frozen.specs.Keys.{AllInEither}
use Rattle.sky_frozen.proofs.keys.all_in_either.Given as goal

abbrev pub invariant-loop-pair : goal.invariant-loop-pair
invariant-loop-pair l =
    (AllInEither l.own l.uses (pairs_of (drop l.pair-index l.pairs)) → AllInEither l.own l.uses (pairs_of l.pairs))
    × (AllInEither l.own l.uses (pairs_of l.pairs) → AllInEither l.own l.uses (pairs_of (drop l.pair-index l.pairs)))
