-- The journal's text was put whole, and then the message or a part of it.
use Rattle.ciel_io.proofs.Joined.{part_whole}
use Rattle.ciel_run.specs.Ending.{trace_of}
use Rattle.ciel_run_log.specs.Message.{message_of}
use Rattle.ciel_run.proofs.Over.{parts}
use Rattle.ciel_run.proofs.top.finish.Goals as goal

pub returns-in-Done-clause-message_part : goal.returns-in-Done-clause-message_part
returns-in-Done-clause-message_part g c =
    let text = trace_of c.args.line.now.trace c.args.journal.now in
    parts (g.J.Sink.written c.args.log.now) (g.J.Sink.written c.write.new.log) (g.J.Sink.written c.tell_trouble.new.log) text
    (message_of c.tell_trouble.result)
    (part_whole (g.J.Sink.written c.args.log.now) (g.J.Sink.written c.write.new.log) text (c.write.ensures.logged c.in-Done.is))
    c.tell_trouble.ensures.message_part
