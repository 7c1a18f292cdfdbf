use Rattle.std.proofs.Common.{sym, ap, ◌∙◌}
use Rattle.sky_base.specs.Val.{same_text}
use Rattle.sky_machine_show.specs.Given.{or_here}
use Rattle.sky_machine_show.proofs.Places.{place_more}
use Rattle.sky_machine_show.proofs.given.Given.new.Goals as goal

pub loop-place-preserved : goal.loop-place-preserved
loop-place-preserved c = λ x.
    let i = c.loop-place.place in
    let n = c.index-names-place.result in
    c.in_ok-add.ensures x ∙ ap (λ o. or_here o (same_text x n) i) (c.loop-place.invariant x)
    ∙ sym (place_more x c.args.names.now i n c.loop-place-test.true c.index-names-place.is)
