use Rattle.std.proofs.Common.{arith}
use Rattle.sky_machine_open.proofs.LastSigns.{signs_but}
use Rattle.sky_machine_open.proofs.signs.all_but.Goals as goal

pub returns : goal.returns
returns c = signs_but c.args.signs.now c.args.count c.saturating_sub-left.result (omega (arith, c.saturating_sub-left.ensures))
