use Rattle.std.proofs.Common.{◌∙◌, sym, subst, IfSome}
use Rattle.ciel_want_ready.specs.Fits.{Fits, needs_by}
use Rattle.ciel_want_ready.proofs.change.closed.Goals as goal

pub search-requires-clause-live : goal.search-requires-clause-live
search-requires-clause-live g c =
    let f = subst (λ o. IfSome o (λ m. Fits c.args.main.now c.args.table.now m)) c.in_ok-marks.was c.requires.fits in
    c.in-Ok-true.ensures.graph.0 ∙ f.live

pub search-requires-clause-makers : goal.search-requires-clause-makers
search-requires-clause-makers g c =
    let f = subst (λ o. IfSome o (λ m. Fits c.args.main.now c.args.table.now m)) c.in_ok-marks.was c.requires.fits in
    c.in-Ok-true.ensures.graph.1 ∙ f.makers_are

pub search-requires-clause-stands : goal.search-requires-clause-stands
search-requires-clause-stands g c =
    let f = subst (λ o. IfSome o (λ m. Fits c.args.main.now c.args.table.now m)) c.in_ok-marks.was c.requires.fits in
    c.in-Ok-true.ensures.stands c.in-Ok-true.field-0-test (needs_by c.args.main.now c.args.table.now)
    (sym c.is_out.ensures.out ∙ c.if-not-is_out.false) f.right
