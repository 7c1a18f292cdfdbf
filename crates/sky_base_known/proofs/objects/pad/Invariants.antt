use Rattle.std.proofs.Common.{◌≡◌, ◌≤◌, ◌+◌, ◌-◌, ℕ, map, length}
use Rattle.std.specs.Option.{option_map}
use Rattle.std.specs.Vec.{vec_capacity}
use Rattle.sky_base.specs.ObjectView.{object_view}
use Rattle.sky_base_known.specs.Known.{with_object, KeptObjects}
use Rattle.sky_base_known.specs.Walk.{Obj}
use Rattle.sky_base_known.proofs.objects.pad.Given as goal

abbrev pub invariant-loop-items : goal.invariant-loop-items
invariant-loop-items l = record {
  same : (k : ℕ) (o : Obj) → k + 1 ≡ l.count → with_object k o (map (option_map object_view) l.items.items)
      ≡ with_object k o (map (option_map object_view) l.fn.items.items);
  room : l.count ≤ vec_capacity l.items;
  kept : KeptObjects (map (option_map object_view) l.fn.items.items) → KeptObjects (map (option_map object_view) l.items.items);
}

abbrev pub decreases-loop-items : goal.decreases-loop-items
decreases-loop-items l = l.count - length l.items.items
