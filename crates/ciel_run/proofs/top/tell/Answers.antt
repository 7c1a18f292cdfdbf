-- The journal's text, and the message behind it.
use Rattle.ciel_run.proofs.Over.{both_parts}
use Rattle.ciel_run.proofs.top.tell.Goals as goal

pub returns-clause-message_part : goal.returns-clause-message_part
returns-clause-message_part g c =
    both_parts _ _ _ _ _ c.put_trace.result c.put_message.result c.put_trace.ensures.written c.put_trace.ensures.part
    c.put_message.ensures.written c.put_message.ensures.part
