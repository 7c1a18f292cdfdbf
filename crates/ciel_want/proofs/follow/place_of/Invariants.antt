use Rattle.std.proofs.Common.{◌≡◌, drop, nat_eq}
use Rattle.std.specs.List.{list_any}
use Rattle.ciel_want.proofs.follow.place_of.Given as goal

abbrev pub invariant-loop-i : goal.invariant-loop-i
invariant-loop-i l = list_any (nat_eq l.fn.row) (drop l.i l.fn.rows) ≡ list_any (nat_eq l.fn.row) l.fn.rows
