-- Which types may be sent to a thread or shared with one: a kit with entries.
use denote.Param.Send.{IsSend, IsSync, sendable}
use denote.RattleType.{RattleType}
use Rattle.boxcar.proofs.vec.Vec.TheSendSync as boxcar_vec
use Rattle.std.proofs.Crossing as std_crossing
use Rattle.std.proofs.alloc.Global.TheSendSync as alloc_global
use Rattle.std.proofs.sync.Arc.TheSendSync as sync_arc
use Rattle.sky_base.specs.declared.kit.Kit as Kit
use Rattle.ciel_memo_file.proofs.Crossing.{entry_send, entry_sync, memo_send, memo_sync}
use Rattle.ciel_memo.specs.contracts.kit.MemoKit as kit_row
use Rattle.ciel_memo.specs.contracts.kit.Shared as shared_row
use Rattle.ciel_memo.specs.declared.fixed.FixedKit as FixedKit

pub shared_field_send : (K R : RattleType) (f : FixedKit.Ghosts K.Denot) (k : Kit.Ghosts K.Denot) → IsSend K → IsSend R
    → IsSend (shared_row.the_field K R f k).row
shared_field_send K R f k a b =
    search (entry_send, memo_send, boxcar_vec.the_send, alloc_global.the_send, std_crossing.crosses, sendable) depth 60 fits 20000

pub shared_field_sync : (K R : RattleType) (f : FixedKit.Ghosts K.Denot) (k : Kit.Ghosts K.Denot) → IsSync K → IsSync R
    → IsSync (shared_row.the_field K R f k).row
shared_field_sync K R f k a b =
    search (
      entry_send,
      entry_sync,
      memo_sync,
      boxcar_vec.the_sync,
      alloc_global.the_send,
      alloc_global.the_sync,
      std_crossing.crosses,
      sendable,
    ) depth 60 fits 20000

pub kit_send : (K R : RattleType) (f : FixedKit.Ghosts K.Denot) (k : Kit.Ghosts K.Denot) → IsSend K → IsSync K → IsSend R → IsSync R
    → IsSend (kit_row.the_row K R f k)
kit_send K R f k a b c d =
    search (shared_field_send, shared_field_sync, sync_arc.the_send, std_crossing.crosses, sendable) depth 60 fits 20000

pub kit_sync : (K R : RattleType) (f : FixedKit.Ghosts K.Denot) (k : Kit.Ghosts K.Denot) → IsSend K → IsSync K → IsSend R → IsSync R
    → IsSync (kit_row.the_row K R f k)
kit_sync K R f k a b c d =
    search (shared_field_send, shared_field_sync, sync_arc.the_sync, std_crossing.crosses, sendable) depth 60 fits 20000
