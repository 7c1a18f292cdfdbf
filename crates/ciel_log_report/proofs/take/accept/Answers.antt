use Rattle.std.proofs.Common.{ap, sym, ◌∙◌}
use Rattle.ciel_log_report.proofs.Parts.{accepted_plan, came_fault, came_text}
use Rattle.ciel_master.specs.Seen.{MasterSeen}
use Rattle.ciel_log_report.proofs.take.accept.Goals as goal

pub returns-in-Ok-Goes-clause-came : goal.returns-in-Ok-Goes-clause-came
returns-in-Ok-Goes-clause-came g c = sym (sym c.in-Ok-Goes.field-0-is ∙ c.in-Ok-Goes.ensures.now)

pub returns-in-Ok-Goes-clause-plan : goal.returns-in-Ok-Goes-clause-plan
returns-in-Ok-Goes-clause-plan g c =
    accepted_plan (g.N.Namer.digest c.args.master.now.namer) c.args.master.now c.accept.new.self c.args.report c.in-Ok-Goes.ensures.accepted

pub returns-in-Ok-Answer-clause-came : goal.returns-in-Ok-Answer-clause-came
returns-in-Ok-Answer-clause-came g c =
    came_text c.args.report.end c.in-Ok-Answer.text (sym c.in-Ok-Answer.field-0-is ∙ c.in-Ok-Answer.ensures.now)

pub returns-in-Ok-Answer-clause-plan : goal.returns-in-Ok-Answer-clause-plan
returns-in-Ok-Answer-clause-plan g c =
    accepted_plan (g.N.Namer.digest c.args.master.now.namer) c.args.master.now c.accept.new.self c.args.report c.in-Ok-Answer.ensures.accepted

pub returns-in-Ok-Fault-clause-came : goal.returns-in-Ok-Fault-clause-came
returns-in-Ok-Fault-clause-came g c =
    came_fault c.args.report.end c.in-Ok-Fault.fault (sym c.in-Ok-Fault.field-0-is ∙ c.in-Ok-Fault.ensures.now)

pub returns-in-Ok-Fault-clause-plan : goal.returns-in-Ok-Fault-clause-plan
returns-in-Ok-Fault-clause-plan g c =
    accepted_plan (g.N.Namer.digest c.args.master.now.namer) c.args.master.now c.accept.new.self c.args.report c.in-Ok-Fault.ensures.accepted

pub returns-in-Err-NameClash-clause-stops : goal.returns-in-Err-NameClash-clause-stops
returns-in-Err-NameClash-clause-stops g c = rw c.in-Err-NameClash.field-0-is at c.in-Err-NameClash.ensures.refused

pub returns-in-Err-NameClash-clause-plan : goal.returns-in-Err-NameClash-clause-plan
returns-in-Err-NameClash-clause-plan g c =
    ap (λ (m : MasterSeen _). m.board.plan) (rw c.in-Err-NameClash.field-0-is at c.in-Err-NameClash.ensures.unplaced)

pub returns-in-Err-TooMany-clause-stops : goal.returns-in-Err-TooMany-clause-stops
returns-in-Err-TooMany-clause-stops g c = rw c.in-Err-TooMany.field-0-is at c.in-Err-TooMany.ensures.refused

pub returns-in-Err-TooMany-clause-plan : goal.returns-in-Err-TooMany-clause-plan
returns-in-Err-TooMany-clause-plan g c =
    ap (λ (m : MasterSeen _). m.board.plan) (rw c.in-Err-TooMany.field-0-is at c.in-Err-TooMany.ensures.unplaced)
