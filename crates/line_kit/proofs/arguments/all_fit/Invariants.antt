use Rattle.std.proofs.Common.{◌≡◌, drop}
use Rattle.sky_base.specs.View.{pairs_of}
use Rattle.line_kit.specs.Table.{all_fit}
use Rattle.line_kit.proofs.arguments.all_fit.Given as goal

abbrev pub invariant-loop-pair : goal.invariant-loop-pair
invariant-loop-pair l = all_fit l.executor (pairs_of (drop l.pair-index l.args)) ≡ all_fit l.executor (pairs_of l.args)
