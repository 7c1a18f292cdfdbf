-- The functions so far have their names.
use Rattle.std.proofs.Common.{take}
use Rattle.sky_base.specs.ScriptView.{funs_view}
use Rattle.sky_frozen.specs.Keys.{AreUses}
use Rattle.sky_frozen.proofs.captures.uses_of.Given as goal

abbrev pub invariant-loop-fun : goal.invariant-loop-fun
invariant-loop-fun l = AreUses l.index.items (funs_view (take l.fun-index l.funs))
