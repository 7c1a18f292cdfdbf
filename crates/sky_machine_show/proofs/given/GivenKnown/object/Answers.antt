use Rattle.std.proofs.Common.{◌≡◌, Some, length, map, ltb-true, ltb-false, sym, ap, ◌∙◌}
use Rattle.sky_base.specs.ObjectView.{object_view}
use Rattle.sky_base.specs.Val.{known}
use Rattle.sky_machine_show.specs.Given.{given_for, name_place}
use Rattle.sky_machine_show.proofs.Places.{given_none, given_some, none_at, object_at}
use Rattle.sky_machine_show.proofs.given.GivenKnown.object.Goals as goal

pub returns-in-Some-get-clause-value : goal.returns-in-Some-get-clause-value
returns-in-Some-get-clause-value c =
    let x = c.args.name.now in
    let ns = c.self.inside.names.now in
    let os = c.self.inside.objects.now in
    let k = c.in-Some.place.now in
    let e : name_place x ns ≡ Some k = sym (c.self.invariant.0 x) ∙ sym c.in-Some.ensures.value in
    ap (λ g. given_for g.0 g.1 (known x)) (sym c.self.view_is) ∙ given_some x ns (map object_view os) k e
    ∙ object_at os k c.in-Some-get.object.now (ltb-true k (length os) (sym c.in-Some-get.ensures.lookup.0)) c.in-Some-get.ensures.lookup.1

pub returns-in-None-get-clause-value : goal.returns-in-None-get-clause-value
returns-in-None-get-clause-value c =
    let x = c.args.name.now in
    let ns = c.self.inside.names.now in
    let os = c.self.inside.objects.now in
    let k = c.in-Some.place.now in
    let e : name_place x ns ≡ Some k = sym (c.self.invariant.0 x) ∙ sym c.in-Some.ensures.value in
    ap (λ g. given_for g.0 g.1 (known x)) (sym c.self.view_is) ∙ given_some x ns (map object_view os) k e
    ∙ none_at os k (ltb-false k (length os) (sym c.in-None-get.ensures.lookup.0))

pub returns-in-None-clause-value : goal.returns-in-None-clause-value
returns-in-None-clause-value c =
    let x = c.args.name.now in
    let ns = c.self.inside.names.now in
    let os = c.self.inside.objects.now in
    ap (λ g. given_for g.0 g.1 (known x)) (sym c.self.view_is)
    ∙ given_none x ns (map object_view os) (sym (c.self.invariant.0 x) ∙ sym c.in-None.ensures.value)
