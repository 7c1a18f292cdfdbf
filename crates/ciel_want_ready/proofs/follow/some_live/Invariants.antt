use Rattle.std.proofs.Common.{◌≡◌, ℕ, true, drop}
use Rattle.ciel_journal.specs.Job.{In}
use Rattle.ciel_want_marks.specs.Lists.{flag}
use Rattle.ciel_want_ready.proofs.follow.some_live.Given as goal

abbrev pub invariant-loop-i : goal.invariant-loop-i
invariant-loop-i l = (r : ℕ) → In r l.rows → flag l.marks.live r ≡ true → In r (drop l.i l.rows)
