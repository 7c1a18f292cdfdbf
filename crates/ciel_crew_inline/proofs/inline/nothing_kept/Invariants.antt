use Rattle.std.proofs.Common.{◌≡◌, None, replicate}
use Rattle.ciel_crew_inline.proofs.inline.nothing_kept.Given as goal

abbrev pub invariant-loop : goal.invariant-loop
invariant-loop l = l.kept.items ≡ replicate l.counter None
