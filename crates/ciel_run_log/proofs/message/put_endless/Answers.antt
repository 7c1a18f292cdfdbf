-- Each piece behind those before it.
use Rattle.ciel_io.proofs.Joined.{on_err, part_more}
use Rattle.ciel_run_log.proofs.Parts.{front_part, last_part}
use Rattle.ciel_run_log.proofs.message.put_endless.Goals as goal

pub returns-in_err-put-clause-part : goal.returns-in_err-put-clause-part
returns-in_err-put-clause-part g c = on_err c.from_residual.result (front_part _ _ _ _ c.in_err-put.ensures.part)

pub returns-in_err-put_names-clause-part : goal.returns-in_err-put_names-clause-part
returns-in_err-put_names-clause-part g c =
    on_err c.from_residual-in_err-put_names.result (part_more _ _ _ _ _ _ c.in_ok-put.ensures.written c.in_err-put_names.ensures.part)

pub returns-in_err-put-2-clause-part : goal.returns-in_err-put-2-clause-part
returns-in_err-put-2-clause-part g c =
    on_err c.from_residual-in_err-put-2.result
    (last_part _ _ _ _ _ c.in_ok-put.ensures.written (last_part _ _ _ _ _ c.in_ok-put_names.ensures.written c.in_err-put-2.ensures.part))
