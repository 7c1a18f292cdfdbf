use Rattle.std.proofs.Common.{◌≡◌, IsFalse, sym, ◌∙◌, subst, rules}
use Rattle.sky_state.specs.Fits.{Fits}
use Rattle.sky_state.specs.StateView.{stand_of}
use Rattle.sky_frozen_bytes.proofs.Parts.{one_state}
use Rattle.sky_frozen.proofs.read.read_frozen.Goals as goal

pub returns-then-not-fits-clause-refused : goal.returns-then-not-fits-clause-refused
returns-then-not-fits-clause-refused c = λ s g f e.
    let read = stand_of c.in_ok-state.state in
    let same : s ≡ read = one_state s read g c.in_ok-state.ensures.spelled (e ∙ sym c.in_ok-state.ensures.bytes) in
    let not : IsFalse c.in-Ok.fits = search rules in
    c.in-Ok.ensures.no not (subst (λ x. Fits c.args.fitting.now x) same f)
