-- A row ends within what all rows take.
use Rattle.std.proofs.Common.{arith}
use Rattle.ciel_io.proofs.RowsLaw.{total_take}
use Rattle.ciel_io.proofs.rows.bounds_of.Goals as goal

pub overflow_add-result : goal.overflow_add-result
overflow_add-result c =
    let within = total_take c.args.lengths.now c.args.place c.requires.place in
    omega (arith, within, c.start_of-start.ensures, c.requires.fits)

pub returns-clause-within : goal.returns-clause-within
returns-clause-within c =
    let within = total_take c.args.lengths.now c.args.place c.requires.place in
    omega (arith, within, c.start_of-start.ensures)
