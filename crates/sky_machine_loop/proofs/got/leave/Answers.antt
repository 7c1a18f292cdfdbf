use Rattle.std.proofs.Common.{arith}
use Rattle.sky_base.specs.Res.{others}
use Rattle.sky_machine_loop.proofs.got.leave.Goals as goal

pub overflow_add-left : goal.overflow_add-left
unfolding others
overflow_add-left c = let room = rw c.in-Open.is at c.requires.room in omega (arith, room)
