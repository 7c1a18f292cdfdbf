use denote.Param.Send.{sendable}
use Rattle.std.proofs.Common.{◌≡◌, None, arith, length, map, replicate, ap, ◌∙◌}
use Rattle.std.specs.Prelude.{true}
use Rattle.std.proofs.Crossing as std_crossing
use Rattle.std.specs.Arc.{arc_value}
use Rattle.std.specs.Vec.{vec_capacity}
use Rattle.ciel_flow_work.specs.Flowing.{as_crew}
use Rattle.ciel_flow_work.specs.Seen.{CrewSeen}
use Rattle.ciel_flow.proofs.ThreadSafety.{flow_done_send, flow_send}
use Rattle.ciel_crew_work.proofs.Opened.{opened_as, opened_stands}
use Rattle.ciel_flow.proofs.LaneSteps.{crew_long}
use Rattle.ciel_flow.proofs.Opening.{crew_fresh, match_fresh}
use Rattle.ciel_flow.proofs.streams.Streams.open.Goals as goal

pub invariant_of-result : goal.invariant_of-result
invariant_of-result g c =
    let gates = c.args.gates.items in
    let shop = arc_value c.args.shop in
    let lanes = c.in-Ok-open.lanes in
    let fresh = c.in-Ok-open.ensures.opened.1 in
    let many : length lanes ≡ length gates = omega (arith, c.in-Ok-open.ensures.opened.0, c.len-workers.ensures, c.args.gates.ok.0) in
    let crew : length (as_crew lanes) ≡ length gates = omega (arith, crew_long lanes, many) in
    record {
      crew = opened_stands shop (as_crew lanes) gates c.args.eyes.items c.equipped.result.items c.in-Ok-room_for.room.items
          (vec_capacity c.in-Ok-room_for.room) c.requires.read c.requires.inputs (crew_fresh lanes fresh) crew c.requires.eyes c.requires.look
          c.equipped.ensures.tools c.in-Ok-room_for.ensures.empty
          (omega (arith, c.in-Ok-room_for.ensures.room, c.len-workers.ensures, c.args.gates.ok.0));
      flow = c.requires.flow;
      agree = match_fresh g.N.Namer.digest shop lanes c.len-workers.result c.in-Ok-no_streams.streams.items fresh
          (omega (arith, many, c.len-workers.ensures, c.args.gates.ok.0)) c.in-Ok-no_streams.ensures;
      said = tt;
      empty = c.in-Ok-room_for-2.ensures.empty;
      enough = omega (arith, many, c.in-Ok-room_for-2.ensures.room, c.len-workers.ensures, c.args.gates.ok.0);
      few = omega (arith, many, c.requires.few);
    }

pub returns-clause-opened : goal.returns-clause-opened
returns-clause-opened g c =
    let gates = c.args.gates.items in
    let shop = arc_value c.args.shop in
    let lanes = c.in-Ok-open.lanes in
    let many : length lanes ≡ length gates = omega (arith, c.in-Ok-open.ensures.opened.0, c.len-workers.ensures, c.args.gates.ok.0) in
    let crew : length (as_crew lanes) ≡ length gates = omega (arith, crew_long lanes, many) in
    let same : c.len-workers.result ≡ length gates = omega (arith, c.len-workers.ensures, c.args.gates.ok.0) in
    let seen = opened_as shop g.G.Gate.entered (as_crew lanes) gates c.args.eyes.items c.equipped.result.items
    (crew_fresh lanes c.in-Ok-open.ensures.opened.1) crew c.requires.eyes c.equipped.ensures.tools in
    ap (λ (s : CrewSeen g.row.K.Denot g.row.N.Denot). record { crew = s; followed = 0; kept = c.in-Ok-no_streams.streams.items }) seen
    ∙ ap (λ xs. record {
      crew = record { shop = shop; out = replicate (length gates) None; told = map g.G.Gate.entered gates; sound = true };
      followed = 0;
      kept = xs;
    }) (c.in-Ok-no_streams.ensures ∙ ap (λ n. replicate n None) same)

pub open-requires-send-W-In : goal.open-requires-send-W-In
open-requires-send-W-In g c κs =
    let k = c.type_bounds.send-K in
    let shared_k = c.type_bounds.sync-K in
    let n = c.type_bounds.send-N in
    let shared_n = c.type_bounds.sync-N in
    let gate = c.type_bounds.send-G in
    let r = c.type_bounds.send-R in
    search (flow_send, std_crossing.crosses, sendable) depth 60 fits 20000

pub open-requires-send-W-Out : goal.open-requires-send-W-Out
open-requires-send-W-Out g c κs = let gate = c.type_bounds.send-G in search (flow_done_send, std_crossing.crosses, sendable) depth 60 fits 20000
