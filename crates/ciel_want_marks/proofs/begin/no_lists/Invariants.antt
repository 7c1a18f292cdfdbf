use Rattle.std.proofs.Common.{◌≡◌, ℕ, [], length}
use Rattle.ciel_want_marks.specs.Lists.{at}
use Rattle.ciel_want_marks.proofs.begin.no_lists.Given as goal

abbrev pub invariant-loop : goal.invariant-loop
invariant-loop l =
    record { long : length l.lists.items ≡ l.counter; none : (u : ℕ) → at l.lists.items u ≡ [] }
