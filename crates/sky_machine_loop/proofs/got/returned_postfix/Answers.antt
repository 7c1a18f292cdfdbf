use Rattle.std.proofs.Common.{sym, ap, arith}
use Rattle.sky_base.specs.View.{view}
use Rattle.sky_machine_entries.specs.Config.{body_in, rest_in}
use Rattle.sky_machine_entries.specs.Entries.{forms}
use Rattle.sky_machine_loop.proofs.Passes.{postfix_returned, postfix_open}
use Rattle.sky_machine_loop.proofs.got.returned_postfix.Goals as goal

pub close-requires-clause-entry : goal.close-requires-clause-entry
close-requires-clause-entry g c = rw c.in-Open.is at c.requires.entry

pub close-requires-clause-room : goal.close-requires-clause-room
close-requires-clause-room g c = let room = rw c.in-Open.is at c.requires.room in omega (arith, room)

pub returns-in_ok-control-in-Open-clause-same : goal.returns-in_ok-control-in-Open-clause-same
returns-in_ok-control-in-Open-clause-same g c = λ w h. rw c.in-Open.is (c.in_ok-control-in-Open.ensures.same w h)

pub returns-in_default-clause-same : goal.returns-in_default-clause-same
returns-in_default-clause-same g c = λ w h.
    ap (rest_in w c.args.entries.now.items) (sym
    (postfix_returned w (body_in w (forms c.args.entries.now.items)) c.args.postfix (view c.args.v) c.args.state.now c.in_default.not-Open))

pub returns-in_default-clause-room : goal.returns-in_default-clause-room
returns-in_default-clause-room g c = omega (arith, postfix_open c.args.postfix c.in_default.not-Open, c.requires.room)
