-- The journal's text, and the message behind it where that failed.
use Rattle.ciel_run.proofs.Over.{both_parts, parts_whole}
use Rattle.ciel_run.proofs.top.trace.Goals as goal

pub returns-in-Ok-clause-message_part : goal.returns-in-Ok-clause-message_part
returns-in-Ok-clause-message_part g c = parts_whole _ _ _ c.in-Ok.ensures.written

pub returns-in-Err-clause-message_part : goal.returns-in-Err-clause-message_part
returns-in-Err-clause-message_part g c =
    both_parts _ _ _ _ _ c.put_trace.result c.put_message.result c.put_trace.ensures.written c.put_trace.ensures.part
    c.put_message.ensures.written c.put_message.ensures.part
