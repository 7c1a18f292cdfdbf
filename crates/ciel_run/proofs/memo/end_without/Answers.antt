-- The message, or where the log failed a part of it.
use Rattle.ciel_io.proofs.Joined.{part_of}
use Rattle.ciel_run_log.specs.Message.{message_of}
use Rattle.ciel_run.proofs.memo.end_without.Goals as goal

pub returns-clause-message_part : goal.returns-clause-message_part
returns-clause-message_part g c = λ other.
    part_of c.put_message.result (g.J.Sink.written c.args.log.now) (g.J.Sink.written c.put_message.new.log) (message_of c.why_not-end.result)
    c.put_message.ensures.written c.put_message.ensures.part
