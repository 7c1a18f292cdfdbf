-- What stands at the loop's index is put behind what was taken.
use Rattle.std.proofs.Common.{◌≡◌, ◌+◌, [], ◌∷◌, drop, Some, option_map, string_bytes, sym, ap, ◌∙◌, arith, rules}
use Rattle.std.proofs.lemmas.List.{drop_more, drop_all}
use Rattle.serde_json.specs.View.{items_view, members_view}
use Rattle.serde_json.proofs.Views.{Entry}
use Rattle.sky_base.specs.Val.{add_val}
use Rattle.sky_base.specs.Op.{join, put}
use Rattle.sky_base.specs.View.{view}
use Rattle.sky_base.proofs.Values.{join-nil}
use Rattle.ciel_json.specs.Read.{values_of, pairs_onto}
use Rattle.ciel_json.proofs.Taken.{item_taken, member_taken}
use Rattle.ciel_json.proofs.read.+take.Goals as goal

pub take_items-loop-item-preserved : goal.take_items-loop-item-preserved
take_items-loop-item-preserved t c =
    let l = c.loop-item in
    let xs = c.deref-item-items.result.now in
    let x = c.item-item.result in
    let rest = drop (l.item-index + 1) xs in
    let here : drop l.item-index xs ≡ x ∷ rest = drop_more xs l.item-index x (omega arith) ∙ ap (λ y. y ∷ rest) (sym c.item-item.is) in
    let pushed : c.push.new.self ≡ add_val l.values (view c.in_ok-take.field-0) = search rules in
    l.invariant
    ∙ ap (λ ys. option_map (join l.values) (values_of (items_view ys))) here
    ∙ item_taken l.values (view c.in_ok-take.field-0) x rest c.in_ok-take.ensures.value
    ∙ ap (λ vs. option_map (join vs) (values_of (items_view rest))) (sym pushed)

pub take_items-returns-clause-value : goal.take_items-returns-clause-value
take_items-returns-clause-value t c =
    let l = c.loop-item in
    let xs = c.deref-item-items.result.now in
    let none : drop l.item-index xs ≡ [] = drop_all l.item-index xs (omega arith) in
    ap (λ ys. values_of (items_view ys)) (sym c.deref-item-items.ensures.value)
    ∙ l.invariant
    ∙ ap (λ ys. option_map (join l.values) (values_of (items_view ys))) none
    ∙ ap Some (join-nil l.values)

pub take_members-loop-key-preserved : goal.take_members-loop-key-preserved
take_members-loop-key-preserved t c =
    let l = c.loop-key in
    let e : Entry = (c.in-Some.key.now, c.in-Some.member.now) in
    let named : c.in_ok-key.key ≡ string_bytes c.in-Some.key.now = search rules in
    let stored : c.insert.new.self ≡ put (string_bytes c.in-Some.key.now) (view c.in_ok-take.field-0) l.pairs = search rules in
    l.invariant
    ∙ ap (λ es. pairs_onto l.pairs (members_view es)) c.in-Some.ensures.steps
    ∙ member_taken l.pairs (view c.in_ok-take.field-0) e c.next.new.self c.in_ok-take.ensures.value
    ∙ ap (λ ps. pairs_onto ps (members_view c.next.new.self)) (sym stored)
