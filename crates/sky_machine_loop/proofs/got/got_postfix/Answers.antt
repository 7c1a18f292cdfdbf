use Rattle.std.proofs.Common.{arith}
use Rattle.sky_machine_loop.proofs.got.got_postfix.Goals as goal

pub next_step-requires-clause-steps : goal.next_step-requires-clause-steps
next_step-requires-clause-steps g c = (rw c.in-First.is at c.requires.entry).0

pub next_step-requires-clause-fits : goal.next_step-requires-clause-fits
next_step-requires-clause-fits g c = (rw c.in-First.is at c.requires.entry).1

pub returns-in_ok-control-in-First-clause-same : goal.returns-in_ok-control-in-First-clause-same
returns-in_ok-control-in-First-clause-same g c = λ w h. rw c.in-First.is (c.in_ok-control-in-First.ensures.same w h)

pub got_index-requires-clause-entry : goal.got_index-requires-clause-entry
got_index-requires-clause-entry g c = rw c.in-Index.is at c.requires.entry

pub returns-in_ok-control-in-Index-clause-same : goal.returns-in_ok-control-in-Index-clause-same
returns-in_ok-control-in-Index-clause-same g c = λ w h. rw c.in-Index.is (c.in_ok-control-in-Index.ensures.same w h)

pub got_arg-requires-clause-entry : goal.got_arg-requires-clause-entry
got_arg-requires-clause-entry g c = rw c.in-Arg.is at c.requires.entry

pub returns-in_ok-control-in-Arg-clause-same : goal.returns-in_ok-control-in-Arg-clause-same
returns-in_ok-control-in-Arg-clause-same g c = λ w h. rw c.in-Arg.is (c.in_ok-control-in-Arg.ensures.same w h)

pub close-requires-clause-entry : goal.close-requires-clause-entry
close-requires-clause-entry g c = rw c.in-Open.is at c.requires.entry

pub returns-in_ok-control-in-Open-clause-same : goal.returns-in_ok-control-in-Open-clause-same
returns-in_ok-control-in-Open-clause-same g c = λ w h. rw c.in-Open.is (c.in_ok-control-in-Open.ensures.same w h)

pub next_step-requires-clause-room : goal.next_step-requires-clause-room
next_step-requires-clause-room g c = let room = rw c.in-First.is at c.requires.room in omega (arith, room)

pub got_index-requires-clause-room : goal.got_index-requires-clause-room
got_index-requires-clause-room g c = let room = rw c.in-Index.is at c.requires.room in omega (arith, room)

pub got_arg-requires-clause-room : goal.got_arg-requires-clause-room
got_arg-requires-clause-room g c = let room = rw c.in-Arg.is at c.requires.room in omega (arith, room)

pub close-requires-clause-room : goal.close-requires-clause-room
close-requires-clause-room g c = let room = rw c.in-Open.is at c.requires.room in omega (arith, room)
