-- The space, and then the digits.
use Rattle.std.proofs.Common.{ℕ, List, subst}
use Rattle.ciel_io.specs.Tells.{TellsPart}
use Rattle.ciel_run_log.specs.Message.{spaced}
use Rattle.ciel_io.proofs.Joined.{on_err}
use Rattle.ciel_run_log.proofs.Parts.{front_part, last_part}
use Rattle.ciel_run_log.proofs.message.put_name.Goals as goal

pub returns-in_err-put-clause-part : goal.returns-in_err-put-clause-part
returns-in_err-put-clause-part g c = on_err c.from_residual.result (front_part _ _ _ _ c.in_err-put.ensures.part)

pub returns-in_err-put_hex-clause-part : goal.returns-in_err-put_hex-clause-part
returns-in_err-put_hex-clause-part g c =
    let part = last_part _ _ _ _ _ c.in_ok-put.ensures.written c.in_err-put_hex.ensures.part in
    on_err c.from_residual-in_err-put_hex.result
    (subst (λ (n : List ℕ). TellsPart (g.J.Sink.written c.args.log.now) (g.J.Sink.written c.put_hex.new.sink) (spaced n)) c.bytes.ensures.bytes part)
