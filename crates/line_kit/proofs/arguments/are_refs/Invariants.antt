use Rattle.std.proofs.Common.{◌≡◌, drop}
use Rattle.sky_base.specs.View.{vals_of}
use Rattle.line_kit.specs.Table.{are_refs}
use Rattle.line_kit.proofs.arguments.are_refs.Given as goal

abbrev pub invariant-loop-value : goal.invariant-loop-value
invariant-loop-value l = are_refs (vals_of (drop l.value-index l.values)) ≡ are_refs (vals_of l.values)
