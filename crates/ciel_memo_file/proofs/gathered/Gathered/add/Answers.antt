-- The key is that of some entry; or of none, and then it has the last place.
use Rattle.std.proofs.Common.{◌≡◌, ◌∷◌, ◌++◌, [], List, ap, length, sym, ◌∙◌, subst, arith}
use Rattle.std.specs.BTreeMap.{insert_entry}
use Rattle.std.specs.Cmp.Lexicographic.{slice_cmp}
use Rattle.std.specs.Ordering.{nat_cmp}
use Rattle.ciel_memo_file.specs.Entries.{Entry, entry_view}
use Rattle.ciel_memo_file.specs.Steps.{Placed, seen}
use Rattle.ciel_memo_file.proofs.Places.{added_seen, is_in, many_seen, not_in, placed_more}
use Rattle.ciel_memo_file.proofs.gathered.Gathered.add.Goals as goal

pub returns-then-contains_key-clause-added : goal.returns-then-contains_key-clause-added
returns-then-contains_key-clause-added c =
    let g = c.args.self.now in
    is_in (seen g) g.places.entries c.args.key (entry_view c.args.entry) c.requires.placed c.requires.key
    (sym c.contains_key.ensures ∙ c.if-contains_key.true)

pub returns-clause-added : goal.returns-clause-added
returns-clause-added c =
    let g = c.args.self.now in (
      added_seen g.entries.items c.push.new.self.items c.args.entry c.in-Ok-push.ensures.items,
      not_in (seen g) g.places.entries c.args.key (entry_view c.args.entry) c.requires.placed c.requires.key
          (sym c.contains_key.ensures ∙ c.if-contains_key.false),
    )

pub returns-clause-placed : goal.returns-clause-placed
returns-clause-placed c =
    let g = c.args.self.now in
    let e : Entry = entry_view c.args.entry in
    let more = placed_more (seen g) g.places.entries c.args.key e c.requires.placed c.requires.key
    (sym c.contains_key.ensures ∙ c.if-contains_key.false) in
    let many : c.len.result ≡ length g.entries.items = omega (arith, c.len.ensures, g.entries.ok.0) in
    let there : c.insert.new.self.entries ≡ insert_entry (slice_cmp nat_cmp) g.places.entries c.args.key (length (seen g)) =
    c.in-Ok.ensures.entries ∙ ap (insert_entry (slice_cmp nat_cmp) g.places.entries c.args.key) (many ∙ sym (many_seen g.entries.items)) in
    subst (λ (es : List Entry). Placed es c.insert.new.self.entries)
    (sym (added_seen g.entries.items c.push.new.self.items c.args.entry c.in-Ok-push.ensures.items))
    (subst (Placed (seen g ++ e ∷ [])) (sym there) more)
