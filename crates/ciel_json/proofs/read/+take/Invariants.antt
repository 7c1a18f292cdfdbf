-- What was taken so far, and what is left to take.
use Rattle.std.proofs.Common.{◌≡◌, drop, option_map}
use Rattle.serde_json.specs.View.{items_view, members_view}
use Rattle.sky_base.specs.Val.{no_pairs}
use Rattle.sky_base.specs.Op.{join}
use Rattle.ciel_json.specs.Read.{values_of, pairs_onto}
use Rattle.ciel_json.proofs.read.+take.Given as goal

abbrev pub invariant-take_items-loop-item : goal.invariant-take_items-loop-item
invariant-take_items-loop-item l =
    values_of (items_view l.item-items) ≡ option_map (join l.values) (values_of (items_view (drop l.item-index l.item-items)))

abbrev pub invariant-take_members-loop-key : goal.invariant-take_members-loop-key
invariant-take_members-loop-key l =
    pairs_onto no_pairs (members_view l.members.entries) ≡ pairs_onto l.pairs (members_view l.key-iterator)
