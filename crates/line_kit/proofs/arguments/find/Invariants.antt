use Rattle.std.proofs.Common.{◌≡◌, drop}
use Rattle.sky_base.specs.Op.{find}
use Rattle.sky_base.specs.View.{pairs_of}
use Rattle.line_kit.proofs.arguments.find.Given as goal

abbrev pub invariant-loop-pair : goal.invariant-loop-pair
invariant-loop-pair l = find l.key (pairs_of (drop l.pair-index l.args)) ≡ find l.key (pairs_of l.args)
