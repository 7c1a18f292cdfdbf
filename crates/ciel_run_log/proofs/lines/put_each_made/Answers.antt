-- What stands at the index is put behind what was put, or a part of it is.
use Rattle.std.proofs.Common.{◌<◌, ◌+◌, length, take, drop, arith}
use Rattle.ciel_run_log.specs.Text.{made_text, made_texts}
use Rattle.ciel_io.proofs.Joined.{on_err}
use Rattle.ciel_run_log.proofs.Puts.{part_at, text_parts}
use Rattle.ciel_run_log.proofs.lines.put_each_made.Goals as goal

pub returns-in_err-put_made-clause-part : goal.returns-in_err-put_made-clause-part
returns-in_err-put_made-clause-part g c =
    let i = c.loop-output.output-index in
    let xs = c.args.made.now in
    let x = c.output-item.result in
    let below : i < length xs = omega arith in
    on_err c.from_residual.result
    (part_at _ _ _ _ (made_texts (take i xs)) (made_text x) (made_texts (drop (i + 1) xs)) (text_parts made_text xs i x below c.output-item.is)
    c.loop-output.invariant.written c.in_err-put_made.ensures.part)
