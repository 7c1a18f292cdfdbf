use Rattle.std.proofs.Common.{◌≡◌, ◌++◌, Some, map, sym, subst, ◌∙◌}
use Rattle.sky_base.specs.Names.{known_of}
use Rattle.sky_base.specs.ObjectView.{object_view}
use Rattle.sky_base.specs.Val.{known}
use Rattle.sky_machine_through.specs.Asked.{told_after}
use Rattle.sky_machine_through.specs.Found.{AllFound}
use Rattle.sky_machine_through.proofs.Turns.{found_more}
use Rattle.sky_machine_through.proofs.through.find_all.Goals as goal

pub names-preserved : goal.names-preserved
names-preserved g c =
    let finds = g.F.Finds.finds c.args.finder.now in
    let n = c.in-Some.name.now in
    let rest = c.in-Some.ensures.cases.0 in
    let found = subst (λ ns. AllFound finds (known_of ns)) rest c.names.invariant.found in
    let object = subst (λ f. f (known n) ≡ Some (object_view c.in-Ok.object)) c.names.invariant.finder
    (rw c.in-Ok.is at c.in_ok-object.ensures.object) in
    let before = subst (λ ns. map finds (known_of c.args.names.now) ≡ map Some (map object_view c.names.objects.items)
    ++ map finds (known_of ns)) rest c.names.invariant.objects in
    record {
      found = found.1;
      finder = c.in_ok-object.ensures.same ∙ c.names.invariant.finder;
      ready = c.in_ok-object.ensures.ready;
      stays = c.in_ok-object.ensures.stays ∙ c.names.invariant.stays;
      noted = subst (λ t. told_after g.F.Finds.notes t (known_of c.in-Some.more.now)
          ≡ told_after g.F.Finds.notes (g.F.Finds.told c.args.finder.now) (known_of c.args.names.now))
          (sym (rw c.in-Ok.is at c.in_ok-object.ensures.noted))
          (subst (λ ns. told_after g.F.Finds.notes (g.F.Finds.told c.names.finder) (known_of ns)
          ≡ told_after g.F.Finds.notes (g.F.Finds.told c.args.finder.now) (known_of c.args.names.now)) rest c.names.invariant.noted);
      objects = subst (λ os. map finds (known_of c.args.names.now) ≡ map Some (map object_view os) ++ map finds (known_of c.in-Some.more.now))
          (sym c.in-Ok-push.ensures.items) (found_more finds (known n) (known_of c.in-Some.more.now) (map finds (known_of c.args.names.now))
          c.names.objects.items c.in-Ok.object object before);
    }
