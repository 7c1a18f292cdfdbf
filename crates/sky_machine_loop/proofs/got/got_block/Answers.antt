use Rattle.std.proofs.Common.{sym, ap}
use Rattle.sky_base.specs.View.{view}
use Rattle.sky_machine_entries.specs.Config.{body_in, rest_in}
use Rattle.sky_machine_entries.specs.Entries.{forms}
use Rattle.sky_machine_loop.proofs.Passes.{block_got}
use Rattle.sky_machine_loop.proofs.got.got_block.Goals as goal

pub got_arm-requires-clause-entry : goal.got_arm-requires-clause-entry
got_arm-requires-clause-entry g c = rw c.in-Arm.is at c.requires.entry

pub returns-in_ok-control-in-Arm-clause-same : goal.returns-in_ok-control-in-Arm-clause-same
returns-in_ok-control-in-Arm-clause-same g c = λ w h. rw c.in-Arm.is (c.in_ok-control-in-Arm.ensures.same w c.args.state.now)

pub got_while-requires-clause-entry : goal.got_while-requires-clause-entry
got_while-requires-clause-entry g c = rw c.in-WhileTest.is at c.requires.entry

pub returns-in_ok-control-in-WhileTest-clause-same : goal.returns-in_ok-control-in-WhileTest-clause-same
returns-in_ok-control-in-WhileTest-clause-same g c = λ w h. rw c.in-WhileTest.is (c.in_ok-control-in-WhileTest.ensures.same w c.args.state.now)

pub got_repeat-requires-clause-entry : goal.got_repeat-requires-clause-entry
got_repeat-requires-clause-entry g c = rw c.in-RepeatTest.is at c.requires.entry

pub returns-in_ok-control-in-RepeatTest-clause-same : goal.returns-in_ok-control-in-RepeatTest-clause-same
returns-in_ok-control-in-RepeatTest-clause-same g c =
    λ w h. rw c.in-RepeatTest.is (c.in_ok-control-in-RepeatTest.ensures.same w c.args.state.now c.requires.within)

pub got_list-requires-clause-entry : goal.got_list-requires-clause-entry
got_list-requires-clause-entry g c = rw c.in-ForList.is at c.requires.entry

pub returns-in_ok-control-in-ForList-clause-same : goal.returns-in_ok-control-in-ForList-clause-same
returns-in_ok-control-in-ForList-clause-same g c = λ w h. rw c.in-ForList.is (c.in_ok-control-in-ForList.ensures.same w)

pub returns-in_default-clause-same : goal.returns-in_default-clause-same
returns-in_default-clause-same g c = λ w h.
    ap (rest_in w c.args.entries.now.items) (sym
    (block_got w (body_in w (forms c.args.entries.now.items)) c.args.block (view c.args.v) c.args.state.now c.in_default.not-Arm
    c.in_default.not-WhileTest c.in_default.not-RepeatTest c.in_default.not-ForList))
