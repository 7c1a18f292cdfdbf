-- The first ones are shared.
use Rattle.std.proofs.Common.{◌≡◌, take}
use Rattle.ciel_memo_file.proofs.entry.shared.Given as goal

abbrev pub invariant-loop-bytes : goal.invariant-loop-bytes
invariant-loop-bytes l = l.copies.items ≡ take l.bytes-index l.all
