use Rattle.std.proofs.Common.{◌≡◌, ℕ, true, drop}
use Rattle.ciel_journal.specs.Job.{In}
use Rattle.ciel_want_marks.specs.Lists.{at, flag}
use Rattle.ciel_want_marks.proofs.marks.Marks.all_live.Given as goal

abbrev pub invariant-loop-i : goal.invariant-loop-i
invariant-loop-i l =
    (r : ℕ) → In r (at l.self.makes l.node) → (flag l.self.live r ≡ true → ⊥) → In r (drop l.i l.rows)
