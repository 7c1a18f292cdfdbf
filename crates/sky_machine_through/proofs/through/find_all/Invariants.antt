use Rattle.std.proofs.Common.{◌≡◌, ◌++◌, map, Some, length}
use Rattle.sky_base.specs.Names.{known_of}
use Rattle.sky_base.specs.ObjectView.{object_view}
use Rattle.sky_machine_through.specs.Asked.{told_after}
use Rattle.sky_machine_through.specs.Found.{AllFound}
use Rattle.sky_machine_through.proofs.through.find_all.Given as goal

abbrev pub invariant-names : goal.invariant-names
invariant-names g l = record {
  found : AllFound (g.F.Finds.finds l.fn.finder) (known_of l.rest);
  finder : g.F.Finds.finds l.finder ≡ g.F.Finds.finds l.fn.finder;
  ready : g.F.Finds.ready l.finder;
  stays : g.F.Finds.stays l.finder ≡ g.F.Finds.stays l.fn.finder;
  noted : told_after g.F.Finds.notes (g.F.Finds.told l.finder) (known_of l.rest)
      ≡ told_after g.F.Finds.notes (g.F.Finds.told l.fn.finder) (known_of l.names);
  objects : map (g.F.Finds.finds l.fn.finder) (known_of l.names) ≡ map Some (map object_view l.objects.items)
      ++ map (g.F.Finds.finds l.fn.finder) (known_of l.rest);
}

abbrev pub decreases-names : goal.decreases-names
decreases-names g l = length l.rest
