use Rattle.std.proofs.Common.{◌+◌, ◌<◌, ◌^◌, length, reverse, arith}
use Rattle.sky_base.specs.TreeView.{signs_view}
use Rattle.sky_machine_exprs.proofs.LastSigns.{signs_length}
use Rattle.sky_machine_exprs.proofs.signs.star.Goals as goal

pub returns-clause-ready : goal.returns-clause-ready
returns-clause-ready c =
    let fits : c.args.step + 1 + length (reverse (signs_view c.args.signs.now)) < 2 ^ 128 =
    omega (arith, c.requires.fits, signs_length c.args.signs.now) in
    c.in_ok-push.ensures.ready c.args.code.now c.requires.ready fits
