use Rattle.std.proofs.Common.{ap, arith}
use Rattle.sky_machine_entries.specs.Config.{rest_in}
use Rattle.sky_machine_entries.specs.Entries.{forms}
use Rattle.sky_machine_loop.proofs.Passes.{fault_out}
use Rattle.sky_machine_loop.proofs.got.finish_postfix.Goals as goal

pub returns-in_ok-control-in-Got-clause-same : goal.returns-in_ok-control-in-Got-clause-same
returns-in_ok-control-in-Got-clause-same g c = λ w h. rw c.in-Got.is (c.in_ok-control-in-Got.ensures.same w h)

pub returns-in_ok-control-in-Goes-clause-same : goal.returns-in_ok-control-in-Goes-clause-same
returns-in_ok-control-in-Goes-clause-same g c = λ w h. rw c.in-Goes.is (c.in_ok-control-in-Goes.ensures.same w h)

pub returns-in_ok-control-in-Returned-clause-same : goal.returns-in_ok-control-in-Returned-clause-same
returns-in_ok-control-in-Returned-clause-same g c = λ w h. rw c.in-Returned.is (c.in_ok-control-in-Returned.ensures.same w h)

pub leave-requires : goal.leave-requires
leave-requires g c = omega (arith, c.requires.room)

pub returns-in-Failed-clause-same : goal.returns-in-Failed-clause-same
returns-in-Failed-clause-same g c = λ w h. rw c.in-Failed.is
    (ap (rest_in w c.args.entries.now.items) (c.leave.ensures.same w (forms c.args.entries.now.items) c.in-Failed.fault))

pub returns-in-Failed-clause-room : goal.returns-in-Failed-clause-room
returns-in-Failed-clause-room g c = omega (arith, c.leave.ensures.room, c.requires.room)

pub returns-in-Failed-clause-falls : goal.returns-in-Failed-clause-falls
returns-in-Failed-clause-falls g c = rw c.in-Failed.is
    (fault_out c.in-Failed.fault _ _ c.args.entries.now.items c.leave.ensures.count c.requires.within)
