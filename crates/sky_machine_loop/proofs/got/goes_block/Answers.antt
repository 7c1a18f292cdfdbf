use Rattle.std.proofs.Common.{sym, ap}
use Rattle.sky_machine_entries.specs.Config.{body_in, rest_in}
use Rattle.sky_machine_entries.specs.Entries.{forms}
use Rattle.sky_machine_loop.proofs.Passes.{block_goes}
use Rattle.sky_machine_loop.proofs.got.goes_block.Goals as goal

pub turns-requires-clause-entry : goal.turns-requires-clause-entry
turns-requires-clause-entry g c = rw c.in-WhileBody.is at c.requires.entry

pub returns-in_ok-control-in-WhileBody-clause-same : goal.returns-in_ok-control-in-WhileBody-clause-same
returns-in_ok-control-in-WhileBody-clause-same g c = λ w h. rw c.in-WhileBody.is (c.in_ok-control-in-WhileBody.ensures.same w h)

pub test_again-requires-clause-entry : goal.test_again-requires-clause-entry
test_again-requires-clause-entry g c = rw c.in-RepeatBody.is at c.requires.entry

pub returns-in_ok-control-in-RepeatBody-clause-same : goal.returns-in_ok-control-in-RepeatBody-clause-same
returns-in_ok-control-in-RepeatBody-clause-same g c = λ w h. rw c.in-RepeatBody.is (c.in_ok-control-in-RepeatBody.ensures.same w c.args.state.now)

pub each-requires-clause-entry : goal.each-requires-clause-entry
each-requires-clause-entry g c = rw c.in-ForBody.is at c.requires.entry

pub returns-in_ok-control-in-ForBody-clause-same : goal.returns-in_ok-control-in-ForBody-clause-same
returns-in_ok-control-in-ForBody-clause-same g c = λ w h. rw c.in-ForBody.is (c.in_ok-control-in-ForBody.ensures.same w)

pub go_stmts-requires-clause-step : goal.go_stmts-requires-clause-step
go_stmts-requires-clause-step g c = (rw c.in-Block.is at c.requires.entry).0

pub go_stmts-requires-clause-has : goal.go_stmts-requires-clause-has
go_stmts-requires-clause-has g c = (rw c.in-Block.is at c.requires.entry).1

pub returns-in_ok-control-in-Block-clause-same : goal.returns-in_ok-control-in-Block-clause-same
returns-in_ok-control-in-Block-clause-same g c = λ w h. rw c.in-Block.is (c.in_ok-control-in-Block.ensures.same w h)

pub returns-in_default-clause-same : goal.returns-in_default-clause-same
returns-in_default-clause-same g c = λ w h.
    ap (rest_in w c.args.entries.now.items) (sym
    (block_goes w (body_in w (forms c.args.entries.now.items)) c.args.block c.args.state.now c.in_default.not-WhileBody
    c.in_default.not-RepeatBody c.in_default.not-ForBody c.in_default.not-Block))
