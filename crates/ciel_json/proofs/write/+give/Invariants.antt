-- A value holds more lists and pairs than what is in it; what was read so far is plain and written.
use Rattle.std.proofs.Common.{◌≡◌, map, take, drop}
use Rattle.serde_json.specs.View.{view as json_view, members_view}
use Rattle.serde_json.specs.Data.{no_members}
use Rattle.sky_base.specs.Val.{val_nodes, vals_nodes, pairs_nodes, vals_plain, pairs_plain}
use Rattle.sky_base.specs.View.{view, vals_of, pairs_of}
use Rattle.ciel_json.specs.Text.{json_of, members_of}
use Rattle.ciel_json.proofs.write.+give.Given as goal

abbrev pub decreases-give : goal.decreases-give
decreases-give l = val_nodes (view l.value.now)

abbrev pub decreases-give_items : goal.decreases-give_items
decreases-give_items l = vals_nodes (vals_of l.values.now)

abbrev pub decreases-give_members : goal.decreases-give_members
decreases-give_members l = pairs_nodes (pairs_of l.pairs.now)

abbrev pub invariant-give_items-loop-value : goal.invariant-give_items-loop-value
invariant-give_items-loop-value l = record {
  written : map json_view l.items.items ≡ map (λ v. json_of (view v)) (take l.value-index l.values);
  plain : vals_plain (vals_of l.values) ≡ vals_plain (vals_of (drop l.value-index l.values));
}

abbrev pub invariant-give_members-loop-pair : goal.invariant-give_members-loop-pair
invariant-give_members-loop-pair l = record {
  written : members_of (pairs_of l.pairs) no_members
      ≡ members_of (pairs_of (drop l.pair-index l.pairs)) (members_view l.members.entries);
  plain : pairs_plain (pairs_of l.pairs) ≡ pairs_plain (pairs_of (drop l.pair-index l.pairs));
}
