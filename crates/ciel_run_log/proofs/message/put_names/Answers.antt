-- What stands at the index is put behind what was put, or a part of it is.
use Rattle.std.proofs.Common.{◌<◌, ◌+◌, length, take, drop, arith}
use Rattle.std.specs.List.{flat_map}
use Rattle.ciel_run_log.specs.Message.{spaced}
use Rattle.ciel_io.proofs.Joined.{on_err}
use Rattle.ciel_run_log.proofs.Puts.{part_at, text_parts}
use Rattle.ciel_run_log.proofs.message.put_names.Goals as goal

pub returns-in_err-put_name-clause-part : goal.returns-in_err-put_name-clause-part
returns-in_err-put_name-clause-part g c =
    let i = c.loop-name.name-index in
    let xs = c.args.names.now in
    let x = c.name-item.result in
    let below : i < length xs = omega arith in
    on_err c.from_residual.result
    (part_at _ _ _ _ (flat_map spaced (take i xs)) (spaced x) (flat_map spaced (drop (i + 1) xs)) (text_parts spaced xs i x below c.name-item.is)
    c.loop-name.invariant.written c.in_err-put_name.ensures.part)
