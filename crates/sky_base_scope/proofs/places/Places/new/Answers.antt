use Rattle.std.proofs.Common.{sym, ap, ◌∙◌}
use Rattle.sky_base.specs.Val.{same_text}
use Rattle.sky_base_scope.specs.FunPlace.{or_here}
use Rattle.sky_base_scope.proofs.FunPlaces.{place_more}
use Rattle.sky_base_scope.proofs.places.Places.new.Goals as goal

pub loop-place-preserved : goal.loop-place-preserved
loop-place-preserved c = λ x.
    let i = c.loop-place.place in
    let f = c.index-funs-place.result in
    c.in_ok-add.ensures x ∙ ap (λ o. or_here o (same_text x f.name) i) (c.loop-place.invariant x)
    ∙ sym (place_more x c.as_slice-funs.result.now i f c.loop-place-test.true c.index-funs-place.is)
