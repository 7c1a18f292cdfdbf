-- Which types may be sent to a thread or shared with one: those of an order, a report and a shop. A search for the whole of one takes too many
-- steps, so each type is gone through once.
use denote.Param.Send.{IsSend, IsSync, sendable}
use denote.RattleType.{RattleType}
use Rattle.ciel_store.proofs.shelves.Place.TheSendSync as shelves_place
use Rattle.ciel_task_order.proofs.block.Held.TheSendSync as block_held
use Rattle.ciel_task_order.proofs.report.End.TheSendSync as report_end
use Rattle.sky_base.proofs.fault.Fault.TheSendSync as fault_fault
use Rattle.sky_base.proofs.job.Inputs.TheSendSync as job_inputs
use Rattle.sky_base.proofs.name.Name.TheSendSync as name_name
use Rattle.sky_base.proofs.object.TaskId.TheSendSync as object_taskid
use Rattle.sky_base.proofs.script.Texts.TheSendSync as script_texts
use Rattle.sky_base.proofs.shared.Shared.TheSendSync as shared_shared
use Rattle.sky_base.proofs.stmt.Arms.TheLaws.TheKnot as stmt_arms
use Rattle.sky_base.proofs.text.Bytes.TheSendSync as text_bytes
use Rattle.sky_base.proofs.text.Memory.TheSendSync as text_memory
use Rattle.sky_base.proofs.text.Txt.TheSendSync as text_txt
use Rattle.sky_base.proofs.tree.ArithOp.TheSendSync as tree_arithop
use Rattle.sky_base.proofs.tree.Cmp.TheSendSync as tree_cmp
use Rattle.sky_base.proofs.tree.Exprs.TheLaws.TheKnot as tree_exprs
use Rattle.sky_base.proofs.tree.Lit.TheSendSync as tree_lit
use Rattle.sky_base.proofs.tree.SignAt.TheSendSync as tree_signat
use Rattle.sky_base.proofs.value.Pairs.TheLaws.TheKnot as value_pairs
use Rattle.sky_base.proofs.value.Total.TheSendSync as value_total
use Rattle.sky_machine_numbers.proofs.tables.Tables.TheSendSync as tables_tables
use Rattle.sky_state.proofs.frame.Todos.TheSendSync as frame_todos
use Rattle.std.proofs.Crossing as std_crossing
use Rattle.std.proofs.alloc.Global.TheSendSync as alloc_global
use Rattle.std.proofs.option.Option.TheSendSync as option_option
use Rattle.std.proofs.result.Result.TheSendSync as result_result
use Rattle.std.proofs.sync.Arc.TheSendSync as sync_arc
use Rattle.std.proofs.vec.Vec.TheSendSync as vec_vec
use Rattle.ciel_task_order.specs.contracts.order.Order as order_row
use Rattle.ciel_task_order.specs.contracts.ready.ReadyJob as ready_row
use Rattle.ciel_task_order.specs.contracts.report.Report as report_row
use Rattle.sky_base.specs.contracts.job.Inputs as inputs_row
use Rattle.sky_base.specs.contracts.object.Object as object_row
use Rattle.sky_base.specs.contracts.script.FunDefs as fundefs_row
use Rattle.sky_base.specs.contracts.script.Texts as texts_row
use Rattle.sky_base.specs.contracts.stmt.Block as block_row
use Rattle.sky_state.specs.contracts.state.RunState as runstate_row
use Rattle.sky_state.specs.contracts.state.State as state_row
use Rattle.sky_base.specs.contracts.script.Script as script_row
use Rattle.sky_base.specs.contracts.job.Job as job_row
use Rattle.sky_frozen_bytes.specs.contracts.frozen.Frozen as frozen_row
use Rattle.ciel_task_order.specs.contracts.block.Block as spot_row
use Rattle.ciel_store.proofs.shelves.Shelves.TheSendSync as shelves
use Rattle.ciel_store.proofs.seats.Eye.TheSendSync as eye
use Rattle.ciel_task_order.specs.contracts.shop.Shop as shop_row
use Rattle.ciel_crew_work.specs.contracts.performing.Tools as tools_row
use Rattle.ciel_crew_work.specs.contracts.performing.Job as work_row
use Rattle.ciel_crew_work.specs.contracts.performing.Done as done_row

pub body_sync : IsSync block_row.the_row
body_sync = search (
  std_crossing.crosses,
  stmt_arms.crosses,
  tree_exprs.crosses,
  text_txt.the_send,
  text_txt.the_sync,
  tree_arithop.the_send,
  tree_arithop.the_sync,
  tree_cmp.the_field_send,
  tree_cmp.the_send,
  tree_cmp.the_field_sync,
  tree_cmp.the_sync,
  tree_lit.the_field_send,
  tree_lit.the_send,
  tree_lit.the_field_sync,
  tree_lit.the_sync,
  tree_signat.the_send,
  tree_signat.the_sync,
  option_option.the_field_send,
  option_option.the_send,
  option_option.the_field_sync,
  option_option.the_sync,
  sendable,
) depth 60 fits 20000

pub body_send : IsSend block_row.the_row
body_send = search (
  std_crossing.crosses,
  stmt_arms.crosses,
  tree_exprs.crosses,
  text_txt.the_send,
  text_txt.the_sync,
  tree_arithop.the_send,
  tree_arithop.the_sync,
  tree_cmp.the_field_send,
  tree_cmp.the_send,
  tree_cmp.the_field_sync,
  tree_cmp.the_sync,
  tree_lit.the_field_send,
  tree_lit.the_send,
  tree_lit.the_field_sync,
  tree_lit.the_sync,
  tree_signat.the_send,
  tree_signat.the_sync,
  option_option.the_field_send,
  option_option.the_send,
  option_option.the_field_sync,
  option_option.the_sync,
  sendable,
) depth 60 fits 20000

pub texts_sync : IsSync texts_row.the_row
texts_sync = script_texts.the_sync

pub texts_send : IsSend texts_row.the_row
texts_send = script_texts.the_send

pub defs_sync : IsSync fundefs_row.the_row
defs_sync = search (
  std_crossing.crosses,
  stmt_arms.crosses,
  tree_exprs.crosses,
  script_texts.the_sync,
  text_txt.the_send,
  text_txt.the_sync,
  tree_arithop.the_send,
  tree_arithop.the_sync,
  tree_cmp.the_field_send,
  tree_cmp.the_send,
  tree_cmp.the_field_sync,
  tree_cmp.the_sync,
  tree_lit.the_field_send,
  tree_lit.the_send,
  tree_lit.the_field_sync,
  tree_lit.the_sync,
  tree_signat.the_send,
  tree_signat.the_sync,
  vec_vec.the_sync,
  option_option.the_field_send,
  option_option.the_send,
  option_option.the_field_sync,
  option_option.the_sync,
  sendable,
) depth
    60 fits 20000

pub defs_send : IsSend fundefs_row.the_row
defs_send = search (
  std_crossing.crosses,
  stmt_arms.crosses,
  tree_exprs.crosses,
  script_texts.the_send,
  text_txt.the_send,
  text_txt.the_sync,
  tree_arithop.the_send,
  tree_arithop.the_sync,
  tree_cmp.the_field_send,
  tree_cmp.the_send,
  tree_cmp.the_field_sync,
  tree_cmp.the_sync,
  tree_lit.the_field_send,
  tree_lit.the_send,
  tree_lit.the_field_sync,
  tree_lit.the_sync,
  tree_signat.the_send,
  tree_signat.the_sync,
  vec_vec.the_send,
  option_option.the_field_send,
  option_option.the_send,
  option_option.the_field_sync,
  option_option.the_sync,
  sendable,
) depth
    60 fits 20000

pub inputs_sync : IsSync inputs_row.the_row
inputs_sync = job_inputs.the_sync

pub inputs_send : IsSend inputs_row.the_row
inputs_send = job_inputs.the_send

pub script_sync : IsSync script_row.the_row
script_sync = search (defs_sync, body_sync, texts_sync, std_crossing.crosses, sendable) depth 60 fits 20000

pub script_send : IsSend script_row.the_row
script_send = search (defs_send, body_send, texts_send, std_crossing.crosses, sendable) depth 60 fits 20000

pub run_field_sync : IsSync (runstate_row.the_field).row
run_field_sync = search (
  std_crossing.crosses,
  value_pairs.crosses,
  name_name.the_send,
  name_name.the_sync,
  text_txt.the_send,
  text_txt.the_sync,
  value_total.the_send,
  value_total.the_sync,
  frame_todos.the_sync,
  vec_vec.the_sync,
  alloc_global.the_field_sync,
  shared_shared.the_send,
  shared_shared.the_field_sync,
  shared_shared.the_sync,
  sync_arc.the_sync,
  vec_vec.the_send,
  sendable,
) depth 60 fits 20000

pub state_field_sync : IsSync (state_row.the_field).row
state_field_sync = search (
  run_field_sync,
  std_crossing.crosses,
  value_pairs.crosses,
  name_name.the_send,
  name_name.the_sync,
  text_txt.the_send,
  text_txt.the_sync,
  value_total.the_send,
  value_total.the_sync,
  shared_shared.the_send,
  shared_shared.the_field_sync,
  shared_shared.the_sync,
  sendable,
) depth 60 fits 20000

pub state_field_send : IsSend (state_row.the_field).row
state_field_send = search (
  std_crossing.crosses,
  value_pairs.crosses,
  name_name.the_send,
  name_name.the_sync,
  text_txt.the_send,
  text_txt.the_sync,
  value_total.the_send,
  value_total.the_sync,
  frame_todos.the_send,
  vec_vec.the_sync,
  alloc_global.the_field_send,
  alloc_global.the_send,
  shared_shared.the_field_send,
  shared_shared.the_send,
  shared_shared.the_sync,
  sync_arc.the_send,
  vec_vec.the_send,
  sendable,
) depth 60 fits 20000

pub frozen_send : IsSend frozen_row.the_row
frozen_send = search (state_field_send, text_bytes.the_send, std_crossing.crosses, sendable) depth 60 fits 20000

pub frozen_sync : IsSync frozen_row.the_row
frozen_sync = search (state_field_sync, text_bytes.the_sync, std_crossing.crosses, sendable) depth 60 fits 20000

pub object_field_send : IsSend (object_row.the_field).row
object_field_send = search (
  std_crossing.crosses,
  value_pairs.crosses,
  fault_fault.the_field_send,
  name_name.the_send,
  name_name.the_sync,
  text_bytes.the_send,
  text_txt.the_send,
  text_txt.the_sync,
  value_total.the_send,
  value_total.the_sync,
  shared_shared.the_field_send,
  shared_shared.the_send,
  shared_shared.the_sync,
  sendable,
) depth 60 fits 20000

pub object_field_sync : IsSync (object_row.the_field).row
object_field_sync = search (
  std_crossing.crosses,
  value_pairs.crosses,
  fault_fault.the_field_sync,
  name_name.the_send,
  name_name.the_sync,
  text_bytes.the_sync,
  text_txt.the_send,
  text_txt.the_sync,
  value_total.the_send,
  value_total.the_sync,
  shared_shared.the_send,
  shared_shared.the_field_sync,
  shared_shared.the_sync,
  sendable,
) depth 60 fits 20000

pub block_send : IsSend spot_row.the_row
block_send = search (object_field_send, frozen_send, std_crossing.crosses, sendable) depth 60 fits 20000

pub block_sync : IsSync spot_row.the_row
block_sync = search (object_field_sync, frozen_sync, std_crossing.crosses, sendable) depth 60 fits 20000

pub job_field_sync : IsSync (job_row.the_field).row
job_field_sync = search (script_sync, inputs_sync, std_crossing.crosses, sendable) depth 60 fits 20000

pub job_field_send : IsSend (job_row.the_field).row
job_field_send = search (script_send, inputs_send, std_crossing.crosses, sendable) depth 60 fits 20000

pub ready_sync : IsSync ready_row.the_row
ready_sync = search (job_field_sync, tables_tables.the_sync, std_crossing.crosses, sendable) depth 60 fits 20000

pub ready_send : IsSend ready_row.the_row
ready_send = search (job_field_send, tables_tables.the_send, std_crossing.crosses, sendable) depth 60 fits 20000

pub report_field_send : IsSend (report_row.the_field).row
report_field_send = search (
  std_crossing.crosses,
  value_pairs.crosses,
  block_held.the_send,
  report_end.the_field_send,
  name_name.the_send,
  name_name.the_sync,
  object_taskid.the_field_send,
  text_txt.the_send,
  text_txt.the_sync,
  value_total.the_send,
  value_total.the_sync,
  alloc_global.the_field_send,
  shared_shared.the_field_send,
  shared_shared.the_send,
  shared_shared.the_sync,
  vec_vec.the_send,
  sendable,
) depth
    60 fits 20000

pub order_field_send : IsSend (order_row.the_field).row
order_field_send = search (
  std_crossing.crosses,
  value_pairs.crosses,
  shelves_place.the_send,
  block_held.the_send,
  name_name.the_send,
  name_name.the_sync,
  object_taskid.the_field_send,
  text_txt.the_send,
  text_txt.the_sync,
  value_total.the_send,
  value_total.the_sync,
  alloc_global.the_field_send,
  option_option.the_field_send,
  shared_shared.the_field_send,
  shared_shared.the_send,
  shared_shared.the_sync,
  sendable,
) depth 60 fits 20000

pub shop_field_sync : (K N : RattleType) → IsSync K → IsSync N → IsSync (shop_row.the_field K N).row
shop_field_sync K N k n = search (ready_sync, shelves.the_sync, block_send, block_sync, std_crossing.crosses, sendable) depth 60 fits 20000

pub shop_field_send : (K N : RattleType) → IsSend K → IsSend N → IsSend (shop_row.the_field K N).row
shop_field_send K N k n = search (ready_send, shelves.the_send, block_send, block_sync, std_crossing.crosses, sendable) depth 60 fits 20000

pub tools_field_send : (G : RattleType) → IsSend G → IsSend (tools_row.the_field G).row
tools_field_send G g = search (eye.the_send, std_crossing.crosses, sendable) depth 60 fits 20000

pub work_send : (K N G R : RattleType) → IsSend K → IsSync K → IsSend N → IsSync N → IsSend G → IsSend R → IsSend (work_row.the_row K N G R)
work_send K N G R k k' n n' g r = search (
  shop_field_send,
  shop_field_sync,
  order_field_send,
  tools_field_send,
  sync_arc.the_send,
  alloc_global.the_send,
  alloc_global.the_sync,
  alloc_global.the_field_send,
  std_crossing.crosses,
  sendable,
) depth 60 fits 20000

pub done_send : (G : RattleType) → IsSend G → IsSend (done_row.the_row G)
done_send G g = search (
  report_field_send,
  order_field_send,
  tools_field_send,
  result_result.the_field_send,
  result_result.the_send,
  text_memory.the_field_send,
  text_memory.the_send,
  std_crossing.crosses,
  sendable,
) depth 60 fits 20000
