use Rattle.std.proofs.Common.{◌≡◌, ◌<◌, ◌≤◌, List, length, get_or, sym, ap, subst, ◌∙◌}
use Rattle.line_flow.specs.declared.entries.Entry.{Entry}
use Rattle.line_flow.proofs.EntriesLaw.{AllWithin-at}
use Rattle.line_flow.proofs.entries.Entries.line.Goals as goal

abbrev none : Entry
none = record { start = 0; end = 0; sum = 0 }

pub line_of-requires : goal.line_of-requires
line_of-requires c =
    let es = c.self.inside.entries.items in
    let bytes = c.self.inside.bytes.items in
    let found = c.in-Some.ensures.lookup in
    let items : c.deref.result.now ≡ es = c.deref.ensures.value in
    let below : c.args.at < length es = subst (λ (xs : List Entry). c.args.at < length xs) items found.3.0 in
    let own : c.in-Some.entry.now ≡ get_or es c.args.at none = found.3.1 none ∙ ap (λ (xs : List Entry). get_or xs c.args.at none) items in
    let same : c.deref-in-Some.result.now ≡ bytes = c.deref-in-Some.ensures.value in
    rw same (subst (λ (e : Entry). (e.start ≤ e.end) × (e.end ≤ length bytes)) (sym own)
    (AllWithin-at (length bytes) es c.args.at none c.self.invariant below))
