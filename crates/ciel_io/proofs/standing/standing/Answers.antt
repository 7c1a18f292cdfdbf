use Rattle.std.proofs.Common.{arith}
use Rattle.std.proofs.lemmas.List.{take_rest}
use Rattle.ciel_io.proofs.Taken.{first_two}
use Rattle.ciel_io.proofs.standing.standing.Goals as goal

pub loop-at-preserved : goal.loop-at-preserved
loop-at-preserved g c =
    let kept = c.loop-at.invariant in
    record {
      within = omega (arith, rw c.in-Some.is at c.in_ok-next_standing.ensures.within);
      window = omega (arith, kept.window, c.next_standing.auto.window);
      taken = first_two _ _ _ c.args.piece.now c.loop-at.at c.in-Some.n kept.taken
          (rw (take_rest c.args.piece.now c.loop-at.at) at rw c.in-Some.is at c.in_ok-next_standing.ensures.read);
    }
