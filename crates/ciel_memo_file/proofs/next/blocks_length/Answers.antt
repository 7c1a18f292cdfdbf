-- The blocks so far and the next one are no longer than all.
use Rattle.std.proofs.Common.{◌≡◌, ap, arith, length}
use Rattle.ciel_memo_file.proofs.Windows.{blocks_within}
use Rattle.ciel_memo_file.proofs.next.blocks_length.Goals as goal

pub overflow_add-length-in-loop-bytes : goal.overflow_add-length-in-loop-bytes
overflow_add-length-in-loop-bytes c =
    let l = c.loop-bytes in
    let b = c.bytes-item.result in
    let most = blocks_within c.args.blocks.now l.bytes-index b (omega (arith, c.loop-bytes-test.true)) c.bytes-item.is in
    let same : length c.as_slice.result.now ≡ length b = ap length c.as_slice.ensures in
    omega (arith, most, same, l.invariant, c.requires.few)
