use Rattle.std.proofs.Common.{◌≡◌, take}
use Rattle.line_flow.specs.Entries.{lent, seen}
use Rattle.line_flow.proofs.entries.Entries.listed.Given as goal

abbrev pub invariant-loop-entry : goal.invariant-loop-entry
invariant-loop-entry l = lent l.all.items ≡ seen l.self-inside.bytes.items (take l.entry-index l.self-inside.entries.items)
