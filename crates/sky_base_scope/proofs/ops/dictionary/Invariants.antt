use Rattle.std.proofs.Common.{◌≡◌, ◌-◌, drop, length}
use Rattle.sky_base.specs.Val.{no_pairs}
use Rattle.sky_base.specs.Op.{dict_from}
use Rattle.sky_base.specs.View.{vals_of}
use Rattle.sky_base_scope.specs.Plain.{items}
use Rattle.sky_base_scope.proofs.ops.dictionary.Given as goal

abbrev pub invariant-loop-i : goal.invariant-loop-i
invariant-loop-i l = dict_from (items (vals_of l.parts)) no_pairs ≡ dict_from (items (vals_of (drop l.i l.parts))) l.pairs

abbrev pub decreases-loop-i : goal.decreases-loop-i
decreases-loop-i l = length l.parts - l.i
