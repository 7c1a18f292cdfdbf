use Rattle.std.proofs.Common.{◌∙◌, arith}
use Rattle.sky_machine_stmts.proofs.rounds.turns_ahead.Goals as goal

pub turns-preserved : goal.turns-preserved
turns-preserved c =
    let done = c.in_ok-turned.ensures in
    let rose = rw c.in-Again.is at done.more in
    record {
      within = done.within;
      more = omega (arith, c.turns.invariant.more, rose);
      same = λ w d h. c.turns.invariant.same w d h ∙ (rw c.in-Again.is at (done.same w d h));
    }

pub returns-in-Stops-clause-same : goal.returns-in-Stops-clause-same
returns-in-Stops-clause-same c = λ w d h. c.turns.invariant.same w d h ∙ (rw c.in-Stops.is at (c.in_ok-turned.ensures.same w d h))
