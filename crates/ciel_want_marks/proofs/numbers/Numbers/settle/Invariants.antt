use Rattle.std.proofs.Common.{◌≡◌, ℕ, ◌⊎◌, true, length}
use Rattle.ciel_journal.specs.Job.{In}
use Rattle.ciel_want_marks.specs.Lists.{flag}
use Rattle.ciel_want_marks.proofs.numbers.Numbers.settle.Given as goal

abbrev pub invariant-settle : goal.invariant-settle
invariant-settle l =
    record {
      inside : (x : ℕ) → In x l.self-inside.items.items → In x l.fn.self;
      left : (x : ℕ) → In x l.fn.self → In x l.self-inside.items.items ⊎ (flag l.flags x ≡ true);
    }

abbrev pub decreases-settle : goal.decreases-settle
decreases-settle l = length l.self-inside.items.items
