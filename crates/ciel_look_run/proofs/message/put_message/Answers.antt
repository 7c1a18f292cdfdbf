-- What was put is the message of the end.
use Rattle.std.proofs.Common.{◌≡◌, ◌∙◌, ℕ, List, [], ◌∷◌, codes, decimal, OnOk, OnErr, sym, ap, ap₂, subst}
use Rattle.std.specs.List.{concat}
use Rattle.ciel_io.specs.Tells.{Tells, TellsPart}
use Rattle.ciel_look_run.specs.Told.{message_of}
use Rattle.ciel_look_run.specs.declared.ends.Why.{Why}
use Rattle.ciel_look_run.proofs.message.put_message.Goals as goal

pub returns-in-Usage-clause-written : goal.returns-in-Usage-clause-written
returns-in-Usage-clause-written g c =
    subst (λ (m : List ℕ). OnOk c.put_all-in-Usage.result (Tells (g.J.Sink.written c.args.log.now) (g.J.Sink.written c.put_all-in-Usage.new.sink) m))
    (ap message_of (sym c.in-Usage.is)) c.put_all-in-Usage.ensures.written

pub returns-in-Usage-clause-part : goal.returns-in-Usage-clause-part
returns-in-Usage-clause-part g c =
    subst (λ (m : List ℕ). OnErr c.put_all-in-Usage.result (TellsPart (g.J.Sink.written c.args.log.now) (g.J.Sink.written c.put_all-in-Usage.new.sink) m))
    (ap message_of (sym c.in-Usage.is)) c.put_all-in-Usage.ensures.part

pub returns-in-TooLong-clause-written : goal.returns-in-TooLong-clause-written
returns-in-TooLong-clause-written g c =
    subst (λ (m : List ℕ). OnOk c.put_all-in-TooLong.result (Tells (g.J.Sink.written c.args.log.now) (g.J.Sink.written c.put_all-in-TooLong.new.sink) m))
    (ap (λ (p : List ℕ). message_of (Why.TooLong p)) c.as_str-in-TooLong.ensures.value ∙ ap message_of (sym c.in-TooLong.is)) c.put_all-in-TooLong.ensures.written

pub returns-in-TooLong-clause-part : goal.returns-in-TooLong-clause-part
returns-in-TooLong-clause-part g c =
    subst (λ (m : List ℕ). OnErr c.put_all-in-TooLong.result (TellsPart (g.J.Sink.written c.args.log.now) (g.J.Sink.written c.put_all-in-TooLong.new.sink) m))
    (ap (λ (p : List ℕ). message_of (Why.TooLong p)) c.as_str-in-TooLong.ensures.value ∙ ap message_of (sym c.in-TooLong.is)) c.put_all-in-TooLong.ensures.part

pub returns-in-NotLog-clause-written : goal.returns-in-NotLog-clause-written
returns-in-NotLog-clause-written g c =
    subst (λ (m : List ℕ). OnOk c.put_all-in-NotLog.result (Tells (g.J.Sink.written c.args.log.now) (g.J.Sink.written c.put_all-in-NotLog.new.sink) m))
    (ap₂ (λ (p d : List ℕ). concat (codes "look: not a log " ∷ p ∷ codes " at byte " ∷ d ∷ codes "\n" ∷ []))
    c.as_str-in-NotLog.ensures.value c.format.ensures.text ∙ ap message_of (sym c.in-NotLog.is)) c.put_all-in-NotLog.ensures.written

pub returns-in-NotLog-clause-part : goal.returns-in-NotLog-clause-part
returns-in-NotLog-clause-part g c =
    subst (λ (m : List ℕ). OnErr c.put_all-in-NotLog.result (TellsPart (g.J.Sink.written c.args.log.now) (g.J.Sink.written c.put_all-in-NotLog.new.sink) m))
    (ap₂ (λ (p d : List ℕ). concat (codes "look: not a log " ∷ p ∷ codes " at byte " ∷ d ∷ codes "\n" ∷ []))
    c.as_str-in-NotLog.ensures.value c.format.ensures.text ∙ ap message_of (sym c.in-NotLog.is)) c.put_all-in-NotLog.ensures.part

pub returns-in-NoTask-clause-written : goal.returns-in-NoTask-clause-written
returns-in-NoTask-clause-written g c =
    subst (λ (m : List ℕ). OnOk c.put_all-in-NoTask.result (Tells (g.J.Sink.written c.args.log.now) (g.J.Sink.written c.put_all-in-NoTask.new.sink) m))
    (ap (λ (p : List ℕ). message_of (Why.NoTask p)) c.as_str-in-NoTask.ensures.value ∙ ap message_of (sym c.in-NoTask.is)) c.put_all-in-NoTask.ensures.written

pub returns-in-NoTask-clause-part : goal.returns-in-NoTask-clause-part
returns-in-NoTask-clause-part g c =
    subst (λ (m : List ℕ). OnErr c.put_all-in-NoTask.result (TellsPart (g.J.Sink.written c.args.log.now) (g.J.Sink.written c.put_all-in-NoTask.new.sink) m))
    (ap (λ (p : List ℕ). message_of (Why.NoTask p)) c.as_str-in-NoTask.ensures.value ∙ ap message_of (sym c.in-NoTask.is)) c.put_all-in-NoTask.ensures.part

pub returns-in-WriteFault-clause-written : goal.returns-in-WriteFault-clause-written
returns-in-WriteFault-clause-written g c =
    subst (λ (m : List ℕ). OnOk c.put_all-in-WriteFault.result (Tells (g.J.Sink.written c.args.log.now) (g.J.Sink.written c.put_all-in-WriteFault.new.sink) m))
    (ap message_of (sym c.in-WriteFault.is)) c.put_all-in-WriteFault.ensures.written

pub returns-in-WriteFault-clause-part : goal.returns-in-WriteFault-clause-part
returns-in-WriteFault-clause-part g c =
    subst (λ (m : List ℕ). OnErr c.put_all-in-WriteFault.result (TellsPart (g.J.Sink.written c.args.log.now) (g.J.Sink.written c.put_all-in-WriteFault.new.sink) m))
    (ap message_of (sym c.in-WriteFault.is)) c.put_all-in-WriteFault.ensures.part

pub returns-in-Memory-clause-written : goal.returns-in-Memory-clause-written
returns-in-Memory-clause-written g c =
    subst (λ (m : List ℕ). OnOk c.put_all-in-Memory.result (Tells (g.J.Sink.written c.args.log.now) (g.J.Sink.written c.put_all-in-Memory.new.sink) m))
    (ap message_of (sym c.in-Memory.is)) c.put_all-in-Memory.ensures.written

pub returns-in-Memory-clause-part : goal.returns-in-Memory-clause-part
returns-in-Memory-clause-part g c =
    subst (λ (m : List ℕ). OnErr c.put_all-in-Memory.result (TellsPart (g.J.Sink.written c.args.log.now) (g.J.Sink.written c.put_all-in-Memory.new.sink) m))
    (ap message_of (sym c.in-Memory.is)) c.put_all-in-Memory.ensures.part
