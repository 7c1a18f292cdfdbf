-- The key is above those before `low`, and below those from `high` on.
use Rattle.std.proofs.Common.{◌-◌}
use Rattle.sky_base.specs.View.{view}
use Rattle.ciel_memo_key.specs.Keys.{key_of}
use Rattle.ciel_memo_key.proofs.Searching.{Between}
use Rattle.ciel_memo_key.proofs.search.place_of.Given as goal

abbrev pub decreases-loop-low : goal.decreases-loop-low
decreases-loop-low l = l.high - l.low

abbrev pub invariant-loop-low : goal.invariant-loop-low
invariant-loop-low l = Between l.keys (key_of l.executor (view l.args) l.inputs l.outputs) l.low l.high
