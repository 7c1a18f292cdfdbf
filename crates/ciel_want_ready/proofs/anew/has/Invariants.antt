use Rattle.std.proofs.Common.{◌≡◌, drop}
use Rattle.ciel_want.specs.Waited.{is_in}
use Rattle.ciel_want_ready.proofs.anew.has.Given as goal

abbrev pub invariant-loop-i : goal.invariant-loop-i
invariant-loop-i l = is_in (drop l.i l.tasks) l.task ≡ is_in l.tasks l.task
