-- What stands at the index is put behind what was put, or a part of it is.
use Rattle.std.proofs.Common.{◌<◌, ◌+◌, length, take, drop, arith}
use Rattle.ciel_run_log.specs.Text.{entry_text, journal_text}
use Rattle.ciel_io.proofs.Joined.{on_err}
use Rattle.ciel_run_log.proofs.Puts.{part_at, text_parts}
use Rattle.ciel_run_log.proofs.text.put_journal.Goals as goal

pub returns-in_err-put_entry-clause-part : goal.returns-in_err-put_entry-clause-part
returns-in_err-put_entry-clause-part g c =
    let i = c.loop-entry.entry-index in
    let xs = c.args.journal.now in
    let x = c.entry-item.result in
    let below : i < length xs = omega arith in
    on_err c.from_residual.result
    (part_at _ _ _ _ (journal_text (take i xs)) (entry_text x) (journal_text (drop (i + 1) xs))
    (text_parts entry_text xs i x below c.entry-item.is) c.loop-entry.invariant.written c.in_err-put_entry.ensures.part)
