-- What was put is the message of the end.
use Rattle.std.proofs.Common.{◌≡◌, ◌∙◌, ℕ, List, [], ◌∷◌, codes, OnOk, OnErr, sym, ap, ap₂, subst}
use Rattle.std.specs.List.{concat}
use Rattle.ciel_io.specs.Tells.{Tells, TellsPart}
use Rattle.ciel_run_log.specs.Message.{placed, counted, pathed, message_of}
use Rattle.ciel_run_log.proofs.message.put_message.Goals as goal

pub returns-in-Syntax-clause-written : goal.returns-in-Syntax-clause-written
returns-in-Syntax-clause-written g c =
    let same : placed (codes "ciel: syntax ") c.syntax_name.result.now c.in-Syntax.line c.in-Syntax.col ≡ message_of c.args.why.now =
    ap (λ n. placed (codes "ciel: syntax ") n c.in-Syntax.line c.in-Syntax.col) c.syntax_name.ensures ∙ ap message_of (sym c.in-Syntax.is) in
    subst (λ (m : List ℕ). OnOk c.put_place.result (Tells (g.J.Sink.written c.args.log.now) (g.J.Sink.written c.put_place.new.log) m)) same
    c.put_place.ensures.written

pub returns-in-Syntax-clause-part : goal.returns-in-Syntax-clause-part
returns-in-Syntax-clause-part g c =
    let same : placed (codes "ciel: syntax ") c.syntax_name.result.now c.in-Syntax.line c.in-Syntax.col ≡ message_of c.args.why.now =
    ap (λ n. placed (codes "ciel: syntax ") n c.in-Syntax.line c.in-Syntax.col) c.syntax_name.ensures ∙ ap message_of (sym c.in-Syntax.is) in
    subst (λ (m : List ℕ). OnErr c.put_place.result (TellsPart (g.J.Sink.written c.args.log.now) (g.J.Sink.written c.put_place.new.log) m)) same
    c.put_place.ensures.part

pub returns-in-Fault-clause-written : goal.returns-in-Fault-clause-written
returns-in-Fault-clause-written g c =
    let same : placed (codes "ciel: fault ") c.fault_name.result.now c.in-Fault.fault.line c.in-Fault.fault.col ≡ message_of c.args.why.now =
    ap (λ n. placed (codes "ciel: fault ") n c.in-Fault.fault.line c.in-Fault.fault.col) c.fault_name.ensures ∙ ap message_of (sym c.in-Fault.is) in
    subst (λ (m : List ℕ). OnOk c.put_place-in-Fault.result
    (Tells (g.J.Sink.written c.args.log.now) (g.J.Sink.written c.put_place-in-Fault.new.log) m)) same c.put_place-in-Fault.ensures.written

pub returns-in-Fault-clause-part : goal.returns-in-Fault-clause-part
returns-in-Fault-clause-part g c =
    let same : placed (codes "ciel: fault ") c.fault_name.result.now c.in-Fault.fault.line c.in-Fault.fault.col ≡ message_of c.args.why.now =
    ap (λ n. placed (codes "ciel: fault ") n c.in-Fault.fault.line c.in-Fault.fault.col) c.fault_name.ensures ∙ ap message_of (sym c.in-Fault.is) in
    subst (λ (m : List ℕ). OnErr c.put_place-in-Fault.result
    (TellsPart (g.J.Sink.written c.args.log.now) (g.J.Sink.written c.put_place-in-Fault.new.log) m)) same c.put_place-in-Fault.ensures.part

pub returns-in-TooMany-clause-written : goal.returns-in-TooMany-clause-written
returns-in-TooMany-clause-written g c =
    let same : counted (codes "ciel: too many descriptions: ") c.in-TooMany.held ≡ message_of c.args.why.now =
    ap message_of (sym c.in-TooMany.is) in
    subst (λ (m : List ℕ). OnOk c.put_count.result (Tells (g.J.Sink.written c.args.log.now) (g.J.Sink.written c.put_count.new.log) m)) same
    c.put_count.ensures.written

pub returns-in-TooMany-clause-part : goal.returns-in-TooMany-clause-part
returns-in-TooMany-clause-part g c =
    let same : counted (codes "ciel: too many descriptions: ") c.in-TooMany.held ≡ message_of c.args.why.now =
    ap message_of (sym c.in-TooMany.is) in
    subst (λ (m : List ℕ). OnErr c.put_count.result (TellsPart (g.J.Sink.written c.args.log.now) (g.J.Sink.written c.put_count.new.log) m)) same
    c.put_count.ensures.part

pub returns-in-TooDeepPlain-clause-written : goal.returns-in-TooDeepPlain-clause-written
returns-in-TooDeepPlain-clause-written g c =
    let same : counted (codes "ciel: plain run too deep ") c.in-TooDeepPlain.depth ≡ message_of c.args.why.now =
    ap message_of (sym c.in-TooDeepPlain.is) in
    subst (λ (m : List ℕ). OnOk c.put_count-in-TooDeepPlain.result
    (Tells (g.J.Sink.written c.args.log.now) (g.J.Sink.written c.put_count-in-TooDeepPlain.new.log) m)) same
    c.put_count-in-TooDeepPlain.ensures.written

pub returns-in-TooDeepPlain-clause-part : goal.returns-in-TooDeepPlain-clause-part
returns-in-TooDeepPlain-clause-part g c =
    let same : counted (codes "ciel: plain run too deep ") c.in-TooDeepPlain.depth ≡ message_of c.args.why.now =
    ap message_of (sym c.in-TooDeepPlain.is) in
    subst (λ (m : List ℕ). OnErr c.put_count-in-TooDeepPlain.result
    (TellsPart (g.J.Sink.written c.args.log.now) (g.J.Sink.written c.put_count-in-TooDeepPlain.new.log) m)) same
    c.put_count-in-TooDeepPlain.ensures.part

pub returns-in-TooLongInput-clause-written : goal.returns-in-TooLongInput-clause-written
returns-in-TooLongInput-clause-written g c =
    let same : pathed (codes "ciel: too long ") c.in-TooLongInput.path c.in-TooLongInput.limit ≡ message_of c.args.why.now = ap message_of (sym c.in-TooLongInput.is) in
    subst (λ (m : List ℕ). OnOk c.put_path.result (Tells (g.J.Sink.written c.args.log.now) (g.J.Sink.written c.put_path.new.log) m)) same
    c.put_path.ensures.written

pub returns-in-TooLongInput-clause-part : goal.returns-in-TooLongInput-clause-part
returns-in-TooLongInput-clause-part g c =
    let same : pathed (codes "ciel: too long ") c.in-TooLongInput.path c.in-TooLongInput.limit ≡ message_of c.args.why.now = ap message_of (sym c.in-TooLongInput.is) in
    subst (λ (m : List ℕ). OnErr c.put_path.result (TellsPart (g.J.Sink.written c.args.log.now) (g.J.Sink.written c.put_path.new.log) m)) same
    c.put_path.ensures.part

pub returns-in-BadLog-clause-written : goal.returns-in-BadLog-clause-written
returns-in-BadLog-clause-written g c =
    let same : pathed (codes "ciel: bad log ") c.in-BadLog.path c.in-BadLog.at ≡ message_of c.args.why.now = ap message_of (sym c.in-BadLog.is) in
    subst (λ (m : List ℕ). OnOk c.put_path-in-BadLog.result (Tells (g.J.Sink.written c.args.log.now) (g.J.Sink.written c.put_path-in-BadLog.new.log) m)) same
    c.put_path-in-BadLog.ensures.written

pub returns-in-BadLog-clause-part : goal.returns-in-BadLog-clause-part
returns-in-BadLog-clause-part g c =
    let same : pathed (codes "ciel: bad log ") c.in-BadLog.path c.in-BadLog.at ≡ message_of c.args.why.now = ap message_of (sym c.in-BadLog.is) in
    subst (λ (m : List ℕ). OnErr c.put_path-in-BadLog.result (TellsPart (g.J.Sink.written c.args.log.now) (g.J.Sink.written c.put_path-in-BadLog.new.log) m)) same
    c.put_path-in-BadLog.ensures.part

pub returns-in-OtherJob-clause-written : goal.returns-in-OtherJob-clause-written
returns-in-OtherJob-clause-written g c =
    let same : concat (codes "ciel: other job " ∷ c.as_str-in-OtherJob.result.now ∷ codes "\n" ∷ []) ≡ message_of c.args.why.now =
    ap (λ (p : List ℕ). concat (codes "ciel: other job " ∷ p ∷ codes "\n" ∷ [])) c.as_str-in-OtherJob.ensures.value ∙ ap message_of (sym c.in-OtherJob.is) in
    subst (λ (m : List ℕ). OnOk c.put_all-in-OtherJob.result
    (Tells (g.J.Sink.written c.args.log.now) (g.J.Sink.written c.put_all-in-OtherJob.new.sink) m)) same c.put_all-in-OtherJob.ensures.written

pub returns-in-OtherJob-clause-part : goal.returns-in-OtherJob-clause-part
returns-in-OtherJob-clause-part g c =
    let same : concat (codes "ciel: other job " ∷ c.as_str-in-OtherJob.result.now ∷ codes "\n" ∷ []) ≡ message_of c.args.why.now =
    ap (λ (p : List ℕ). concat (codes "ciel: other job " ∷ p ∷ codes "\n" ∷ [])) c.as_str-in-OtherJob.ensures.value ∙ ap message_of (sym c.in-OtherJob.is) in
    subst (λ (m : List ℕ). OnErr c.put_all-in-OtherJob.result
    (TellsPart (g.J.Sink.written c.args.log.now) (g.J.Sink.written c.put_all-in-OtherJob.new.sink) m)) same c.put_all-in-OtherJob.ensures.part

pub returns-in-BadMemo-clause-written : goal.returns-in-BadMemo-clause-written
returns-in-BadMemo-clause-written g c =
    let same : pathed (codes "ciel: bad memo ") c.in-BadMemo.path c.in-BadMemo.at ≡ message_of c.args.why.now = ap message_of (sym c.in-BadMemo.is) in
    subst (λ (m : List ℕ). OnOk c.put_path-in-BadMemo.result (Tells (g.J.Sink.written c.args.log.now) (g.J.Sink.written c.put_path-in-BadMemo.new.log) m)) same
    c.put_path-in-BadMemo.ensures.written

pub returns-in-BadMemo-clause-part : goal.returns-in-BadMemo-clause-part
returns-in-BadMemo-clause-part g c =
    let same : pathed (codes "ciel: bad memo ") c.in-BadMemo.path c.in-BadMemo.at ≡ message_of c.args.why.now = ap message_of (sym c.in-BadMemo.is) in
    subst (λ (m : List ℕ). OnErr c.put_path-in-BadMemo.result (TellsPart (g.J.Sink.written c.args.log.now) (g.J.Sink.written c.put_path-in-BadMemo.new.log) m)) same
    c.put_path-in-BadMemo.ensures.part

pub returns-in-LogFull-clause-written : goal.returns-in-LogFull-clause-written
returns-in-LogFull-clause-written g c =
    let same : pathed (codes "ciel: log full ") c.in-LogFull.path c.in-LogFull.held ≡ message_of c.args.why.now = ap message_of (sym c.in-LogFull.is) in
    subst (λ (m : List ℕ). OnOk c.put_path-in-LogFull.result (Tells (g.J.Sink.written c.args.log.now) (g.J.Sink.written c.put_path-in-LogFull.new.log) m)) same
    c.put_path-in-LogFull.ensures.written

pub returns-in-LogFull-clause-part : goal.returns-in-LogFull-clause-part
returns-in-LogFull-clause-part g c =
    let same : pathed (codes "ciel: log full ") c.in-LogFull.path c.in-LogFull.held ≡ message_of c.args.why.now = ap message_of (sym c.in-LogFull.is) in
    subst (λ (m : List ℕ). OnErr c.put_path-in-LogFull.result (TellsPart (g.J.Sink.written c.args.log.now) (g.J.Sink.written c.put_path-in-LogFull.new.log) m)) same
    c.put_path-in-LogFull.ensures.part

pub returns-in-Usage-clause-written : goal.returns-in-Usage-clause-written
returns-in-Usage-clause-written g c =
    subst (λ (m : List ℕ). OnOk c.put.result (Tells (g.J.Sink.written c.args.log.now) (g.J.Sink.written c.put.new.self) m))
    (ap message_of (sym c.in-Usage.is)) c.put.ensures.written

pub returns-in-Usage-clause-part : goal.returns-in-Usage-clause-part
returns-in-Usage-clause-part g c =
    subst (λ (m : List ℕ). OnErr c.put.result (TellsPart (g.J.Sink.written c.args.log.now) (g.J.Sink.written c.put.new.self) m))
    (ap message_of (sym c.in-Usage.is)) c.put.ensures.part

pub returns-in-AllLost-clause-written : goal.returns-in-AllLost-clause-written
returns-in-AllLost-clause-written g c =
    subst (λ (m : List ℕ). OnOk c.put-in-AllLost.result (Tells (g.J.Sink.written c.args.log.now) (g.J.Sink.written c.put-in-AllLost.new.self) m))
    (ap message_of (sym c.in-AllLost.is)) c.put-in-AllLost.ensures.written

pub returns-in-AllLost-clause-part : goal.returns-in-AllLost-clause-part
returns-in-AllLost-clause-part g c =
    subst (λ (m : List ℕ). OnErr c.put-in-AllLost.result
    (TellsPart (g.J.Sink.written c.args.log.now) (g.J.Sink.written c.put-in-AllLost.new.self) m)) (ap message_of (sym c.in-AllLost.is))
    c.put-in-AllLost.ensures.part
