-- The entries so far stand behind what was held.
use Rattle.std.proofs.Common.{◌≡◌, ◌++◌, flat_map, map, take}
use Rattle.ciel_memo_file.specs.Entries.{entry_view}
use Rattle.ciel_memo_file.specs.File.{entry_bytes}
use Rattle.ciel_memo_file.proofs.write.put_entries.Given as goal

abbrev pub invariant-loop-entry : goal.invariant-loop-entry
invariant-loop-entry l = l.out ≡ l.fn.out ++ flat_map entry_bytes (map entry_view (take l.entry-index l.entries))
