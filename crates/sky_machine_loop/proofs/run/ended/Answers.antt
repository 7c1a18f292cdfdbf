use Rattle.std.proofs.Common.{length, ap, ◌∙◌, arith}
use Rattle.sky_base_law.specs.Nodes.{pre_script}
use Rattle.sky_machine_parts.specs.Made.{whole}
use Rattle.sky_machine_loop.proofs.Steps.{popped, popped_ready, popped_room}
use Rattle.sky_machine_loop.proofs.Work.{ended}
use Rattle.sky_machine_loop.proofs.run.ended.Goals as goal

pub finish-requires-clause-ready : goal.finish-requires-clause-ready
finish-requires-clause-ready g c =
    (popped_ready c.args.ground.now.code.now c.args.entries.now.items _ c.in-Some.entry c.in-Some.ensures.some c.requires.ready).0

pub finish-requires-clause-entry : goal.finish-requires-clause-entry
finish-requires-clause-entry g c =
    (popped_ready c.args.ground.now.code.now c.args.entries.now.items _ c.in-Some.entry c.in-Some.ensures.some c.requires.ready).1

pub finish-requires-clause-room : goal.finish-requires-clause-room
finish-requires-clause-room g c =
    popped_room c.args.entries.now.items _ c.in-Some.entry _ c.in-Some.ensures.some c.requires.room

pub returns-in-None : goal.returns-in-None
returns-in-None g c = absurd (omega (arith, c.requires.left_to_do, ap length c.in-None.ensures.empty))

pub returns-in_ok-next-in-Some-clause-same : goal.returns-in_ok-next-in-Some-clause-same
returns-in_ok-next-in-Some-clause-same g c = λ w h.
    c.in_ok-next-in-Some.ensures.same w h ∙ ap (whole (g.N.Namer.digest c.args.ground.now.namer.now) c.args.made.now.items)
    (popped w c.args.entries.now.items _ c.in-Some.entry c.args.end c.args.state.now c.in-Some.ensures.some)

pub returns-in_ok-next-in-Some-clause-falls : goal.returns-in_ok-next-in-Some-clause-falls
returns-in_ok-next-in-Some-clause-falls g c =
    ended (length (pre_script c.args.ground.now.code.now)) c.args.end _ _ _ _ _ c.in-Some.entry _ c.in-Some.ensures.some
    c.in_ok-next-in-Some.ensures.falls
