-- Each piece behind those before it.
use Rattle.std.proofs.Common.{codes, ◌++◌}
use Rattle.hex.specs.Hex.{encode_lower}
use Rattle.ciel_io.proofs.Joined.{on_err, part_more}
use Rattle.ciel_run_log.proofs.Parts.{front_part, last_part}
use Rattle.ciel_run_log.proofs.message.put_clash.Goals as goal

pub returns-in_err-put-clause-part : goal.returns-in_err-put-clause-part
returns-in_err-put-clause-part g c = on_err c.from_residual.result (front_part _ _ _ _ c.in_err-put.ensures.part)

pub returns-in_err-put_hex-clause-part : goal.returns-in_err-put_hex-clause-part
returns-in_err-put_hex-clause-part g c =
    on_err c.from_residual-in_err-put_hex.result (part_more _ _ _ _ _ _ c.in_ok-put.ensures.written c.in_err-put_hex.ensures.part)

pub returns-in_err-put-2-clause-part : goal.returns-in_err-put-2-clause-part
returns-in_err-put-2-clause-part g c =
    on_err c.from_residual-in_err-put-2.result
    (last_part _ _ _ _ _ c.in_ok-put.ensures.written (part_more _ _ _ _ _ _ c.in_ok-put_hex.ensures.written c.in_err-put-2.ensures.part))

pub returns-in_err-put_hex-2-clause-part : goal.returns-in_err-put_hex-2-clause-part
returns-in_err-put_hex-2-clause-part g c =
    on_err c.from_residual-in_err-put_hex-2.result
    (last_part _ _ _ _ _ c.in_ok-put.ensures.written
    (last_part _ _ _ _ _ c.in_ok-put_hex.ensures.written
    (part_more _ _ _ _ _ _ c.in_ok-put-2.ensures.written c.in_err-put_hex-2.ensures.part)))

pub returns-in_err-put-3-clause-part : goal.returns-in_err-put-3-clause-part
returns-in_err-put-3-clause-part g c =
    on_err c.from_residual-in_err-put-3.result
    (last_part _ _ _ _ _ c.in_ok-put.ensures.written
    (last_part _ _ _ _ _ c.in_ok-put_hex.ensures.written
    (last_part _ _ _ _ _ c.in_ok-put-2.ensures.written
    (last_part _ _ _ _ _ c.in_ok-put_hex-2.ensures.written c.in_err-put-3.ensures.part))))
