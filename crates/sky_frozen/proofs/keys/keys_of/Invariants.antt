-- What has a value, and the names that are left, are the names.
use Rattle.std.proofs.Common.{◌≡◌, ℕ, List, ◌||◌, is_some, drop}
use Rattle.sky_base.specs.Op.{find}
use Rattle.sky_base.specs.Eval.{is_one_of}
use Rattle.sky_frozen.proofs.keys.keys_of.Given as goal

abbrev pub invariant-loop-name : goal.invariant-loop-name
invariant-loop-name l = (k : List ℕ) → (is_some (find k l.keys) || is_one_of k (drop l.name-index l.names)) ≡ is_one_of k l.names
