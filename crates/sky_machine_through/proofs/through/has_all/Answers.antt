use Rattle.std.proofs.Common.{false, sym, ◌∙◌, subst, inl, refl}
use Rattle.sky_base.specs.Val.{known}
use Rattle.sky_base.specs.Names.{known_of}
use Rattle.sky_machine_through.specs.Found.{OneLacks}
use Rattle.sky_machine_through.proofs.Turns.{none_of}
use Rattle.sky_machine_through.proofs.through.has_all.Goals as goal

pub returns-then-not-has : goal.returns-then-not-has
returns-then-not-has g c =
    let finds = g.F.Finds.finds c.args.finder.now in
    let none = none_of finds (finds (known c.in-Some.name.now)) (sym c.has.ensures ∙ c.if-not-has.true) in
    c.names.invariant false (subst (λ ns. OneLacks finds (known_of ns)) (sym c.in-Some.ensures.cases.0) (known c.in-Some.name.now, inl refl, none))
