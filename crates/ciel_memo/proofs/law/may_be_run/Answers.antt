-- The kit crosses where its runtime does.
use denote.Param.Send.{sendable}
use Rattle.std.proofs.Crossing as std_crossing
use Rattle.ciel_memo.proofs.Crossing.{kit_send, kit_sync}
use Rattle.ciel_memo.proofs.law.may_be_run.Goals as goal

pub takes_a_kit-requires-send-K : goal.takes_a_kit-requires-send-K
takes_a_kit-requires-send-K g c κs within =
    let r = c.type_bounds.send-R in
    let y = c.type_bounds.sync-R in
    search (kit_send, std_crossing.crosses, sendable) depth 60 fits 20000

pub takes_a_kit-requires-sync-K : goal.takes_a_kit-requires-sync-K
takes_a_kit-requires-sync-K g c κs within =
    let r = c.type_bounds.send-R in
    let y = c.type_bounds.sync-R in
    search (kit_sync, std_crossing.crosses, sendable) depth 60 fits 20000
