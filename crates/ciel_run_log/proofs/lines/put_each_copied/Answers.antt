-- What stands at the index is put behind what was put, or a part of it is.
use Rattle.std.proofs.Common.{◌<◌, ◌+◌, length, take, drop, arith}
use Rattle.ciel_run_log.specs.Text.{copied_text, copied_texts}
use Rattle.ciel_io.proofs.Joined.{on_err}
use Rattle.ciel_run_log.proofs.Puts.{part_at, text_parts}
use Rattle.ciel_run_log.proofs.lines.put_each_copied.Goals as goal

pub returns-in_err-put_copied-clause-part : goal.returns-in_err-put_copied-clause-part
returns-in_err-put_copied-clause-part g c =
    let i = c.loop-name.name-index in
    let xs = c.args.copied.now in
    let x = c.name-item.result in
    let below : i < length xs = omega arith in
    on_err c.from_residual.result
    (part_at _ _ _ _ (copied_texts (take i xs)) (copied_text x) (copied_texts (drop (i + 1) xs))
    (text_parts copied_text xs i x below c.name-item.is) c.loop-name.invariant.written c.in_err-put_copied.ensures.part)
