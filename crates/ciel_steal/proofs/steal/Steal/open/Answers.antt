use denote.Param.Send.{sendable}
use Rattle.std.proofs.Common.{◌≡◌, arith, length}
use Rattle.std.proofs.Crossing as std_crossing
use Rattle.std.specs.Arc.{arc_value}
use Rattle.std.specs.Vec.{vec_capacity}
use Rattle.ciel_crew_work.proofs.ThreadSafety.{done_send, work_send}
use Rattle.ciel_crew_work.proofs.Opened.{opened_as, opened_stands}
use Rattle.ciel_steal.proofs.steal.Steal.open.Goals as goal

pub invariant_of-result : goal.invariant_of-result
invariant_of-result g c =
    let gates = c.args.gates.items in
    let many : length c.in-Ok-open.lanes ≡ length gates = omega (arith, c.in-Ok-open.ensures.opened.0, c.len-workers.ensures, c.args.gates.ok.0) in
    opened_stands (arc_value c.args.shop) c.in-Ok-open.lanes gates c.args.eyes.items c.equipped.result.items c.in-Ok-room_for.room.items
    (vec_capacity c.in-Ok-room_for.room) c.requires.read c.requires.inputs c.in-Ok-open.ensures.opened.1 many c.requires.eyes c.requires.look
    c.equipped.ensures.tools c.in-Ok-room_for.ensures.empty
    (omega (arith, c.in-Ok-room_for.ensures.room, c.len-2.ensures, c.args.gates.ok.0))

pub returns-clause-opened : goal.returns-clause-opened
returns-clause-opened g c =
    let gates = c.args.gates.items in
    let many : length c.in-Ok-open.lanes ≡ length gates = omega (arith, c.in-Ok-open.ensures.opened.0, c.len-workers.ensures, c.args.gates.ok.0) in
    opened_as (arc_value c.args.shop) g.G.Gate.entered c.in-Ok-open.lanes gates c.args.eyes.items c.equipped.result.items
    c.in-Ok-open.ensures.opened.1 many c.requires.eyes c.equipped.ensures.tools

pub open-requires-send-W-In : goal.open-requires-send-W-In
open-requires-send-W-In g c κs =
    let k = c.type_bounds.send-K in
    let shared_k = c.type_bounds.sync-K in
    let n = c.type_bounds.send-N in
    let shared_n = c.type_bounds.sync-N in
    let gate = c.type_bounds.send-G in
    let r = c.type_bounds.send-R in
    search (work_send, std_crossing.crosses, sendable) depth 60 fits 20000

pub open-requires-send-W-Out : goal.open-requires-send-W-Out
open-requires-send-W-Out g c κs = let gate = c.type_bounds.send-G in search (done_send, std_crossing.crosses, sendable) depth 60 fits 20000
