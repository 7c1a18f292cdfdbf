use Rattle.std.proofs.Common.{ap, arith}
use Rattle.sky_machine_parts.specs.Made.{whole}
use Rattle.sky_machine_loop.proofs.Passes.{form_open, stmt_open, block_open}
use Rattle.sky_machine_loop.proofs.got.finish.Goals as goal

pub finish_form-requires-clause-entry : goal.finish_form-requires-clause-entry
finish_form-requires-clause-entry g c = rw c.in-Form.is at c.requires.entry

pub returns-in_ok-control-in-Form-clause-same : goal.returns-in_ok-control-in-Form-clause-same
returns-in_ok-control-in-Form-clause-same g c = λ w h. rw c.in-Form.is (c.in_ok-control-in-Form.ensures.same w h)

pub returns-in_ok-control-in-Form-clause-room : goal.returns-in_ok-control-in-Form-clause-room
returns-in_ok-control-in-Form-clause-room g c = let room = rw c.in-Form.is at c.requires.room in
    omega (arith, form_open c.in-Form.form, room, c.in_ok-control-in-Form.ensures.opened)

pub finish_postfix-requires-clause-entry : goal.finish_postfix-requires-clause-entry
finish_postfix-requires-clause-entry g c = rw c.in-Postfix.is at c.requires.entry

pub finish_postfix-requires-clause-room : goal.finish_postfix-requires-clause-room
finish_postfix-requires-clause-room g c = rw c.in-Postfix.is at c.requires.room

pub returns-in_ok-control-in-Postfix-clause-same : goal.returns-in_ok-control-in-Postfix-clause-same
returns-in_ok-control-in-Postfix-clause-same g c = λ w h.
    rw c.in-Postfix.is (ap (whole (g.N.Namer.digest c.args.ground.now.namer.now) c.args.made.now.items)
    (c.in_ok-control-in-Postfix.ensures.same w h.script))

pub finish_stmt-requires-clause-entry : goal.finish_stmt-requires-clause-entry
finish_stmt-requires-clause-entry g c = rw c.in-Stmt.is at c.requires.entry

pub returns-in_ok-control-in-Stmt-clause-same : goal.returns-in_ok-control-in-Stmt-clause-same
returns-in_ok-control-in-Stmt-clause-same g c = λ w h.
    rw c.in-Stmt.is (ap (whole (g.N.Namer.digest c.args.ground.now.namer.now) c.args.made.now.items)
    (c.in_ok-control-in-Stmt.ensures.same w h.script))

pub returns-in_ok-control-in-Stmt-clause-room : goal.returns-in_ok-control-in-Stmt-clause-room
returns-in_ok-control-in-Stmt-clause-room g c = let room = rw c.in-Stmt.is at c.requires.room in
    omega (arith, stmt_open c.in-Stmt.stmt, room, c.in_ok-control-in-Stmt.ensures.opened)

pub finish_block-requires-clause-entry : goal.finish_block-requires-clause-entry
finish_block-requires-clause-entry g c = rw c.in-Block.is at c.requires.entry

pub returns-in_ok-control-in-Block-clause-same : goal.returns-in_ok-control-in-Block-clause-same
returns-in_ok-control-in-Block-clause-same g c = λ w h.
    rw c.in-Block.is (ap (whole (g.N.Namer.digest c.args.ground.now.namer.now) c.args.made.now.items)
    (c.in_ok-control-in-Block.ensures.same w h.script))

pub returns-in_ok-control-in-Block-clause-room : goal.returns-in_ok-control-in-Block-clause-room
returns-in_ok-control-in-Block-clause-room g c = let room = rw c.in-Block.is at c.requires.room in
    omega (arith, block_open c.in-Block.block, room, c.in_ok-control-in-Block.ensures.opened)
