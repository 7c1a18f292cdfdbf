use Rattle.std.proofs.Common.{◌≡◌, ◌++◌, length}
use Rattle.sky_parse_held.proofs.names.Known.into_texts.Given as goal

abbrev pub invariant-loop-key : goal.invariant-loop-key
invariant-loop-key l = l.items.items ++ l.keys.keys ≡ l.initial.keys.keys

abbrev pub decreases-loop-key : goal.decreases-loop-key
decreases-loop-key l = length l.keys.keys
