-- The sum grows by the length at the index.
use Rattle.std.proofs.Common.{◌∙◌, ap, arith, take, get_or, length}
use Rattle.ciel_io.proofs.RowsLaw.{total_next, total_part, total_take}
use Rattle.ciel_io.proofs.rows.start_of.Goals as goal

pub overflow_add-start : goal.overflow_add-start
overflow_add-start c =
    let part = total_part c.args.lengths.now c.args.place in
    let below = total_take (take c.args.place c.args.lengths.now) c.loop-length.length-index c.loop-length-test.true in
    omega (arith, part, below, c.requires.fits, c.loop-length.invariant)

pub loop-length-preserved : goal.loop-length-preserved
loop-length-preserved c =
    let next = total_next (take c.args.place c.args.lengths.now) c.loop-length.length-index c.loop-length-test.true in
    omega (arith, next, c.loop-length.invariant)
