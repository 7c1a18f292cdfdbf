use Rattle.std.proofs.Common.{sym, subst, length, refl}
use Rattle.ciel_want.proofs.UnmetWalks.{take_rest}
use Rattle.ciel_want.specs.Marked.{AllBelow}
use Rattle.ciel_want.proofs.RowCircles.{below_drop}
use Rattle.ciel_want.proofs.follow.names_from.Goals as goal

pub names_of-requires : goal.names_of-requires
names_of-requires g c =
    let n = length c.args.table.now.rows in
    let trail = c.args.trail.now in
    record { below = subst (AllBelow n) (sym (take_rest trail trail c.in-Some.i refl)) (below_drop n trail c.in-Some.i c.requires.below) }
