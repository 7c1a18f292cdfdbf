use Rattle.std.proofs.Common.{◌≡◌, ◌<◌, List, length, subst}
use Rattle.line_flow.specs.declared.entries.Entry.{Entry}
use Rattle.line_flow.proofs.EntriesLaw.{AllWithin-at}
use Rattle.line_flow.proofs.entries.Entries.listed.Goals as goal

abbrev none : Entry
none = record { start = 0; end = 0; sum = 0 }

pub line_of-requires : goal.line_of-requires
line_of-requires c =
    let es = c.self.inside.entries.items in
    let items : c.deref-entry-items.result.now ≡ es = c.deref-entry-items.ensures.value in
    let bytes : c.deref.result.now ≡ c.self.inside.bytes.items = c.deref.ensures.value in
    let below : c.loop-entry.entry-index < length es = subst (λ (xs : List Entry). c.loop-entry.entry-index < length xs) items c.loop-entry-test.true in
    rw items (rw bytes (AllWithin-at (length c.self.inside.bytes.items) es c.loop-entry.entry-index none c.self.invariant below))
