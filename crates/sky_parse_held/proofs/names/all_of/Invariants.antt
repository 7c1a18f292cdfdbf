use Rattle.std.proofs.Common.{◌≡◌, ℕ, List, drop}
use Rattle.std.specs.Prelude.{◌||◌}
use Rattle.sky_base.specs.Eval.{is_one_of}
use Rattle.sky_parse_held.proofs.names.all_of.Given as goal

abbrev pub invariant-loop-name : goal.invariant-loop-name
invariant-loop-name l = (x : List ℕ) → is_one_of x l.known || is_one_of x (drop l.name-index l.names) ≡ is_one_of x l.names
