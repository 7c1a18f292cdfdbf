-- A kit may be shared with a thread.
use denote.Param.Send.{sendable}
use Rattle.std.proofs.Crossing as std_crossing
use Rattle.std.proofs.alloc.Global.TheSendSync as alloc_global
use Rattle.ciel_memo.proofs.Crossing.{kit_send, kit_sync}
use Rattle.ciel_memo_tests.proofs.threads.two_threads_keep_what_they_made.Goals as goal

pub join-a-requires-send-F : goal.join-a-requires-send-F
join-a-requires-send-F g c κs within =
    search (
      kit_sync,
      alloc_global.the_send,
      alloc_global.the_sync,
      alloc_global.the_field_send,
      alloc_global.the_field_sync,
      std_crossing.crosses,
      sendable,
    ) depth 60 fits 20000
