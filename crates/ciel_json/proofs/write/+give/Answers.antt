-- What stands at the loop's index is in the list, and is put behind what was written.
use Rattle.std.proofs.Common.{◌≡◌, ◌+◌, ◌∷◌, take, drop, map, string_bytes, sym, ap, ◌∙◌, arith, rules}
use Rattle.std.proofs.lemmas.List.{drop_more, take_all}
use Rattle.serde_json.specs.View.{members_view}
use Rattle.serde_json.specs.Data.{put}
use Rattle.serde_json.proofs.Views.{members_view-insert_entry}
use Rattle.sky_base.specs.View.{view, pairs_of}
use Rattle.ciel_json.specs.Text.{json_of, members_of}
use Rattle.ciel_json.proofs.Given.{items_given}
use Rattle.ciel_json.proofs.Nested.{value_within, pair_within, pairs_plain-drop}
use Rattle.ciel_json.proofs.write.+give.Goals as goal

pub give_items-give-requires : goal.give_items-give-requires
give_items-give-requires t c =
    let l = c.loop-value in
    let xs = c.args.values.now in
    let x = c.value-item.result in
    let rest = drop (l.value-index + 1) xs in
    let here : drop l.value-index xs ≡ x ∷ rest =
    drop_more xs l.value-index x (omega arith) ∙ ap (λ y. y ∷ rest) (sym c.value-item.is) in
    let below = value_within xs l.value-index x rest here in
    (omega (arith, c.decreases), tt)

pub give_items-returns-clause-json : goal.give_items-returns-clause-json
give_items-returns-clause-json t c =
    let l = c.loop-value in
    let xs = c.args.values.now in
    let all : take l.value-index xs ≡ xs = take_all l.value-index xs (omega arith) in
    items_given l.items.items xs (l.invariant.written ∙ ap (map (λ v. json_of (view v))) all)

pub give_members-give-requires : goal.give_members-give-requires
give_members-give-requires t c =
    let l = c.loop-pair in
    let xs = c.args.pairs.now in
    let x = c.pair-item.result in
    let rest = drop (l.pair-index + 1) xs in
    let here : drop l.pair-index xs ≡ x ∷ rest =
    drop_more xs l.pair-index x (omega arith) ∙ ap (λ y. y ∷ rest) (sym c.pair-item.is) in
    let below = pair_within xs l.pair-index x rest here in
    (omega (arith, c.decreases), tt)

pub give_members-loop-pair-preserved : goal.give_members-loop-pair-preserved
give_members-loop-pair-preserved t c =
    let l = c.loop-pair in
    let xs = c.args.pairs.now in
    let x = c.pair-item.result in
    let rest = drop (l.pair-index + 1) xs in
    let here : drop l.pair-index xs ≡ x ∷ rest =
    drop_more xs l.pair-index x (omega arith) ∙ ap (λ y. y ∷ rest) (sym c.pair-item.is) in
    let named : string_bytes c.in_ok-key.key ≡ x.key = search rules in
    let stored : members_view c.insert.new.self.entries ≡ put x.key (json_of (view x.value)) (members_view l.members.entries) =
    ap members_view c.in_ok-insert.ensures.entries
    ∙ members_view-insert_entry l.members.entries c.in_ok-key.key c.in_ok-give.field-0
    ∙ rw (named, c.in_ok-give.ensures.json) in
    record {
      written =
          l.invariant.written
          ∙ ap (λ ys. members_of (pairs_of ys) (members_view l.members.entries)) here
          ∙ ap (members_of (pairs_of rest)) (sym stored);
      plain = l.invariant.plain ∙ pairs_plain-drop xs l.pair-index x rest here c.in_ok-give.ensures.plain;
    }
