-- Which types may be sent to a thread or shared with one: an entry and a memo.
use denote.Param.Send.{IsSend, IsSync, sendable}
use Rattle.ciel_memo_key.proofs.key.Key.TheSendSync as key_key
use Rattle.sky_base.proofs.name.Name.TheSendSync as name_name
use Rattle.sky_base.proofs.shared.Shared.TheSendSync as shared_shared
use Rattle.sky_base.proofs.text.Bytes.TheSendSync as text_bytes
use Rattle.sky_base.proofs.text.Txt.TheSendSync as text_txt
use Rattle.sky_base.proofs.value.Pairs.TheLaws.TheKnot as value_pairs
use Rattle.sky_base.proofs.value.Total.TheSendSync as value_total
use Rattle.std.proofs.Crossing as std_crossing
use Rattle.std.proofs.vec.Vec.TheSendSync as vec_vec
use Rattle.ciel_memo_file.specs.contracts.entry.Entry as entry_row
use Rattle.ciel_memo_file.specs.contracts.memo.Memo as memo_row

pub entry_send : IsSend entry_row.the_row
entry_send = search (
  std_crossing.crosses,
  value_pairs.crosses,
  name_name.the_send,
  name_name.the_sync,
  text_bytes.the_send,
  text_txt.the_send,
  text_txt.the_sync,
  value_total.the_send,
  value_total.the_sync,
  shared_shared.the_field_send,
  shared_shared.the_send,
  shared_shared.the_sync,
  sendable,
) depth 60 fits 20000

pub entry_sync : IsSync entry_row.the_row
entry_sync = search (
  std_crossing.crosses,
  value_pairs.crosses,
  name_name.the_send,
  name_name.the_sync,
  text_bytes.the_sync,
  text_txt.the_send,
  text_txt.the_sync,
  value_total.the_send,
  value_total.the_sync,
  shared_shared.the_send,
  shared_shared.the_field_sync,
  shared_shared.the_sync,
  sendable,
) depth 60 fits 20000

pub memo_send : IsSend memo_row.the_row
memo_send = search (
  entry_send,
  key_key.the_send,
  vec_vec.the_send,
  std_crossing.crosses,
  sendable,
) depth 60 fits 20000

pub memo_sync : IsSync memo_row.the_row
memo_sync = search (
  entry_sync,
  key_key.the_sync,
  vec_vec.the_sync,
  std_crossing.crosses,
  sendable,
) depth 60 fits 20000
