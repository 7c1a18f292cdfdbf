use Rattle.std.proofs.Common.{arith}
use Rattle.sky_base.proofs.Changes.{place_change, val_within}
use Rattle.sky_base.proofs.Values.{size_in}
use Rattle.sky_base.proofs.op.other_sizes.Goals as goal

pub returns-in-Some-clause-sum : goal.returns-in-Some-clause-sum
returns-in-Some-clause-sum c =
    λ e ws h. omega (arith, place_change c.args.vs.now c.args.at _ e ws c.in-Some.ensures h, size_in c.args.vs.now c.args.at _ c.in-Some.ensures)

pub returns-in-None-clause-sum : goal.returns-in-None-clause-sum
returns-in-None-clause-sum c =
    λ e ws h. let w = val_within c.args.vs.now c.args.at c.requires.at in absurd (cc (w.1, c.in-None.ensures))
