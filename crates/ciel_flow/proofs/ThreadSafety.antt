-- What a lane's desk holds may be sent to a thread: what goes on it, and what comes back.
use denote.Param.Send.{IsSend, IsSync, sendable}
use denote.RattleType.{RattleType}
use Rattle.ciel_crew_work.proofs.ThreadSafety.{order_field_send, report_field_send, shop_field_send, shop_field_sync, tools_field_send}
use Rattle.ciel_flow_pieces.proofs.ends.Follower.TheSendSync as ends_follower
use Rattle.ciel_flow_pieces.proofs.ends.Producer.TheSendSync as ends_producer
use Rattle.sky_base.proofs.fault.FaultKind.TheSendSync as fault_kind
use Rattle.sky_base.proofs.name.Name.TheSendSync as name_name
use Rattle.sky_base.proofs.shared.Shared.TheSendSync as shared_shared
use Rattle.sky_base.proofs.text.Bytes.TheSendSync as text_bytes
use Rattle.sky_base.proofs.text.Memory.TheSendSync as text_memory
use Rattle.sky_base.proofs.text.Txt.TheSendSync as text_txt
use Rattle.sky_base.proofs.value.Pairs.TheLaws.TheKnot as value_pairs
use Rattle.sky_base.proofs.value.Total.TheSendSync as value_total
use Rattle.std.proofs.Crossing as std_crossing
use Rattle.std.proofs.alloc.Global.TheSendSync as alloc_global
use Rattle.std.proofs.option.Option.TheSendSync as option_option
use Rattle.std.proofs.result.Result.TheSendSync as result_result
use Rattle.std.proofs.sync.Arc.TheSendSync as sync_arc
use Rattle.std.proofs.vec.Vec.TheSendSync as vec_vec
use Rattle.ciel_crew_work.specs.contracts.performing.Done as done_row
use Rattle.ciel_crew_work.specs.contracts.performing.Job as work_row
use Rattle.ciel_flow_pieces.specs.contracts.follow.Left as left_row
use Rattle.ciel_flow_work.specs.contracts.job.FlowDone as flow_done_row
use Rattle.ciel_flow_work.specs.contracts.job.FlowJob as flow_row
use Rattle.ciel_flow_work.specs.contracts.job.Follow as follow_row
use Rattle.ciel_flow_work.specs.contracts.job.Perform as perform_row
use Rattle.ciel_flow_work.specs.contracts.job.Performed as performed_row

pub left_field_send : IsSend (left_row.the_field).row
left_field_send = search (
  std_crossing.crosses,
  value_pairs.crosses,
  fault_kind.the_send,
  name_name.the_send,
  name_name.the_sync,
  text_bytes.the_send,
  text_txt.the_send,
  text_txt.the_sync,
  value_total.the_send,
  value_total.the_sync,
  alloc_global.the_field_send,
  alloc_global.the_send,
  result_result.the_field_send,
  result_result.the_send,
  shared_shared.the_field_send,
  shared_shared.the_send,
  shared_shared.the_sync,
  vec_vec.the_send,
  sendable,
) depth 60 fits 20000

pub work_field_send : (K N G R : RattleType) → IsSend K → IsSync K → IsSend N → IsSync N → IsSend G → IsSend R → IsSend (work_row.the_field K N G R).row
work_field_send K N G R k k' n n' g r = search (
  shop_field_send,
  shop_field_sync,
  order_field_send,
  tools_field_send,
  sync_arc.the_send,
  alloc_global.the_send,
  alloc_global.the_sync,
  alloc_global.the_field_send,
  std_crossing.crosses,
  sendable,
) depth 60 fits 20000

pub perform_field_send : (K N G R : RattleType) → IsSend K → IsSync K → IsSend N → IsSync N → IsSend G → IsSend R
    → IsSend (perform_row.the_field K N G R).row
perform_field_send K N G R k k' n n' g r = search (
  work_field_send,
  left_field_send,
  ends_producer.the_send,
  option_option.the_field_send,
  option_option.the_send,
  std_crossing.crosses,
  sendable,
) depth 60 fits 20000

pub follow_field_send : (R : RattleType) → IsSend R → IsSend (follow_row.the_field R).row
follow_field_send R r = search (
  std_crossing.crosses,
  value_pairs.crosses,
  ends_follower.the_send,
  name_name.the_send,
  name_name.the_sync,
  text_txt.the_send,
  text_txt.the_sync,
  value_total.the_send,
  value_total.the_sync,
  alloc_global.the_field_send,
  alloc_global.the_send,
  shared_shared.the_field_send,
  shared_shared.the_send,
  shared_shared.the_sync,
  sendable,
) depth 60 fits 20000

pub flow_send : (K N G R : RattleType) → IsSend K → IsSync K → IsSend N → IsSync N → IsSend G → IsSend R → IsSend (flow_row.the_row K N G R)
flow_send K N G R k k' n n' g r = search (perform_field_send, follow_field_send, std_crossing.crosses, sendable) depth 60 fits 20000

pub done_field_send : (G : RattleType) → IsSend G → IsSend (done_row.the_field G).row
done_field_send G g = search (
  report_field_send,
  order_field_send,
  tools_field_send,
  result_result.the_field_send,
  result_result.the_send,
  text_memory.the_field_send,
  text_memory.the_send,
  std_crossing.crosses,
  sendable,
) depth 60 fits 20000

pub performed_field_send : (G : RattleType) → IsSend G → IsSend (performed_row.the_field G).row
performed_field_send G g = search (done_field_send, std_crossing.crosses, sendable) depth 60 fits 20000

pub flow_done_send : (G : RattleType) → IsSend G → IsSend (flow_done_row.the_row G)
flow_done_send G g = search (
  performed_field_send,
  left_field_send,
  option_option.the_field_send,
  option_option.the_send,
  std_crossing.crosses,
  sendable,
) depth 60 fits 20000
