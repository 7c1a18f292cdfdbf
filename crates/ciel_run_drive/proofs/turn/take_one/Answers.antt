use Rattle.std.proofs.Common.{◌<◌, ◌^◌, refl, rules, sym, ◌∙◌}
use Rattle.ciel_master_board.specs.Board.{find_order}
use Rattle.ciel_run_drive.proofs.Names as names
use Rattle.ciel_run_drive.proofs.Names.{none_of, some_of}
use Rattle.ciel_run_drive.proofs.Reports.{answer_ended, clash_ended, fault_ended, overflow_ended, taken_as, taken_kept, thrown_as, thrown_kept}
use Rattle.ciel_run_drive.proofs.ToldLemmas.{tells_none}
use Rattle.ciel_run_drive.proofs.MovedLemmas.{does_accept, does_throw, ends_all, ends_but_last}
use Rattle.ciel_run_drive.proofs.turn.take_one.Goals as goal

pub next-requires-clause-out : goal.next-requires-clause-out
next-requires-clause-out g c = names.some_out c.requires.working c.requires.some_out

pub returns-then-not-is_out-clause-model : goal.returns-then-not-is_out-clause-model
returns-then-not-is_out-clause-model g c k =
    let report = c.in-Ok.ensures.report in
    let then = g.C.Crew.out c.next.new.self in
    thrown_kept c.requires.working k c.in-Ok.report then report c.next.ensures.shop

pub returns-then-not-is_out-clause-working : goal.returns-then-not-is_out-clause-working
returns-then-not-is_out-clause-working g c =
    let k = c.requires.working in
    let report = c.in-Ok.ensures.report in
    let then = g.C.Crew.out c.next.new.self in
    let none = none_of (find_order c.in-Ok.report.number c.args.master.now.board.orders) c.is_out.ensures c.if-not-is_out.true in
    names.thrown_kept k c.in-Ok.report then report none c.turns_come_to_an_end.ensures.thrown c.rows_stay.ensures c.next.ensures.shop c.in-Ok.ensures.sound

pub returns-then-not-is_out-clause-less : goal.returns-then-not-is_out-clause-less
returns-then-not-is_out-clause-less g c =
    let k = c.requires.working in
    let report = c.in-Ok.ensures.report in
    let then = g.C.Crew.out c.next.new.self in
    let none = none_of (find_order c.in-Ok.report.number c.args.master.now.board.orders) c.is_out.ensures c.if-not-is_out.true in
    names.thrown_less k c.in-Ok.report then report none c.turns_come_to_an_end.ensures.thrown

pub returns-then-not-is_out-clause-told : goal.returns-then-not-is_out-clause-told
returns-then-not-is_out-clause-told g c =
    tells_none c.args.master.now.board.journal c.args.master.now.board.journal (g.C.Crew.told c.args.crew.now) (g.C.Crew.told c.next.new.self)
    refl c.in-Ok.ensures.told

pub accept-requires-clause-fits : goal.accept-requires-clause-fits
accept-requires-clause-fits g c =
    let k = c.requires.working in
    let report = c.in-Ok.ensures.report in
    let then = g.C.Crew.out c.next.new.self in
    let there = some_of (find_order c.in-Ok.report.number c.args.master.now.board.orders) c.is_out.ensures c.if-not-is_out.false in
    names.fits_now k c.in-Ok.report then report there

pub returns-in-Ok-Goes-clause-model : goal.returns-in-Ok-Goes-clause-model
returns-in-Ok-Goes-clause-model g c k =
    let report = c.in-Ok.ensures.report in
    let then = g.C.Crew.out c.next.new.self in
    let there = some_of (find_order c.in-Ok.report.number c.args.master.now.board.orders) c.is_out.ensures c.if-not-is_out.false in
    taken_kept c.requires.working k c.in-Ok.report then report there c.requires.rests c.accept.ensures.carried c.in-Ok-Goes.ensures.learned
    c.in-Ok-Goes.ensures.accepted c.next.ensures.shop

pub returns-in-Ok-Goes-clause-working : goal.returns-in-Ok-Goes-clause-working
returns-in-Ok-Goes-clause-working g c =
    let k = c.requires.working in
    let report = c.in-Ok.ensures.report in
    let then = g.C.Crew.out c.next.new.self in
    let there = some_of (find_order c.in-Ok.report.number c.args.master.now.board.orders) c.is_out.ensures c.if-not-is_out.false in
    names.taken_kept k c.in-Ok.report then report there c.accept.ensures.carried c.in-Ok-Goes.ensures.learned
    c.in-Ok-Goes.ensures.accepted c.turns_come_to_an_end.ensures.report c.turns_come_to_an_end.ensures.missed (sym c.in-Ok-Goes.field-0-is ∙ c.in-Ok-Goes.ensures.now) c.rows_stay.ensures c.tasks_stay.ensures
    c.next.ensures.shop c.in-Ok.ensures.sound

pub returns-in-Ok-Goes-clause-less : goal.returns-in-Ok-Goes-clause-less
returns-in-Ok-Goes-clause-less g c =
    let k = c.requires.working in
    let report = c.in-Ok.ensures.report in
    let then = g.C.Crew.out c.next.new.self in
    let there = some_of (find_order c.in-Ok.report.number c.args.master.now.board.orders) c.is_out.ensures c.if-not-is_out.false in
    names.taken_less k c.in-Ok.report then report there c.accept.ensures.carried c.in-Ok-Goes.ensures.learned
    c.in-Ok-Goes.ensures.accepted c.turns_come_to_an_end.ensures.report c.turns_come_to_an_end.ensures.missed (sym c.in-Ok-Goes.field-0-is ∙ c.in-Ok-Goes.ensures.now)

pub returns-in-Ok-Goes-clause-plan : goal.returns-in-Ok-Goes-clause-plan
returns-in-Ok-Goes-clause-plan g c =
    let k = c.requires.working in
    let report = c.in-Ok.ensures.report in
    let then = g.C.Crew.out c.next.new.self in
    let there = some_of (find_order c.in-Ok.report.number c.args.master.now.board.orders) c.is_out.ensures c.if-not-is_out.false in
    names.taken_plan k c.in-Ok.report then report there c.accept.ensures.carried c.in-Ok-Goes.ensures.learned c.in-Ok-Goes.ensures.accepted

pub returns-in-Ok-Goes-clause-told : goal.returns-in-Ok-Goes-clause-told
returns-in-Ok-Goes-clause-told g c =
    let k = c.requires.working in
    let report = c.in-Ok.ensures.report in
    let then = g.C.Crew.out c.next.new.self in
    let there = some_of (find_order c.in-Ok.report.number c.args.master.now.board.orders) c.is_out.ensures c.if-not-is_out.false in
    names.taken_told k c.in-Ok.report then report there c.accept.ensures.carried c.in-Ok-Goes.ensures.learned
    c.in-Ok-Goes.ensures.accepted (g.C.Crew.told c.args.crew.now) (g.C.Crew.told c.next.new.self) c.in-Ok.ensures.told

pub returns-in-Ok-Answer-clause-end : goal.returns-in-Ok-Answer-clause-end
returns-in-Ok-Answer-clause-end g c k =
    let report = c.in-Ok.ensures.report in
    let then = g.C.Crew.out c.next.new.self in
    let there = some_of (find_order c.in-Ok.report.number c.args.master.now.board.orders) c.is_out.ensures c.if-not-is_out.false in
    answer_ended c.requires.working k c.in-Ok.report then report there c.requires.rests c.accept.ensures.carried c.in-Ok-Answer.ensures.learned
    c.in-Ok-Answer.ensures.accepted (sym c.in-Ok-Answer.field-0-is ∙ c.in-Ok-Answer.ensures.now)

pub returns-in-Ok-Answer-clause-last : goal.returns-in-Ok-Answer-clause-last
returns-in-Ok-Answer-clause-last g c =
    let k = c.requires.working in
    let report = c.in-Ok.ensures.report in
    let then = g.C.Crew.out c.next.new.self in
    let there = some_of (find_order c.in-Ok.report.number c.args.master.now.board.orders) c.is_out.ensures c.if-not-is_out.false in
    λ _. names.taken_told k c.in-Ok.report then report there c.accept.ensures.carried c.in-Ok-Answer.ensures.learned
    c.in-Ok-Answer.ensures.accepted (g.C.Crew.told c.args.crew.now) (g.C.Crew.told c.next.new.self) c.in-Ok.ensures.told

pub returns-in-Ok-Fault-clause-end : goal.returns-in-Ok-Fault-clause-end
returns-in-Ok-Fault-clause-end g c k =
    let report = c.in-Ok.ensures.report in
    let then = g.C.Crew.out c.next.new.self in
    let there = some_of (find_order c.in-Ok.report.number c.args.master.now.board.orders) c.is_out.ensures c.if-not-is_out.false in
    fault_ended c.requires.working k c.in-Ok.report then report there c.requires.rests c.accept.ensures.carried c.in-Ok-Fault.ensures.learned
    c.in-Ok-Fault.ensures.accepted (sym c.in-Ok-Fault.field-0-is ∙ c.in-Ok-Fault.ensures.now)

pub returns-in-Ok-Fault-clause-last : goal.returns-in-Ok-Fault-clause-last
returns-in-Ok-Fault-clause-last g c =
    let k = c.requires.working in
    let report = c.in-Ok.ensures.report in
    let then = g.C.Crew.out c.next.new.self in
    let there = some_of (find_order c.in-Ok.report.number c.args.master.now.board.orders) c.is_out.ensures c.if-not-is_out.false in
    λ _. names.taken_told k c.in-Ok.report then report there c.accept.ensures.carried c.in-Ok-Fault.ensures.learned
    c.in-Ok-Fault.ensures.accepted (g.C.Crew.told c.args.crew.now) (g.C.Crew.told c.next.new.self) c.in-Ok.ensures.told

pub returns-in-Err-NameClash-clause-end : goal.returns-in-Err-NameClash-clause-end
returns-in-Err-NameClash-clause-end g c k =
    let report = c.in-Ok.ensures.report in
    let then = g.C.Crew.out c.next.new.self in
    let there = some_of (find_order c.in-Ok.report.number c.args.master.now.board.orders) c.is_out.ensures c.if-not-is_out.false in
    clash_ended c.requires.working k c.in-Ok.report then report there c.in-Err-NameClash.ensures.journal c.in-Err-NameClash.kept c.in-Err-NameClash.given
    (rw c.in-Err-NameClash.field-0-is at c.in-Err-NameClash.ensures.refused)

pub returns-in-Err-NameClash-clause-last : goal.returns-in-Err-NameClash-clause-last
returns-in-Err-NameClash-clause-last g c =
    λ _. tells_none c.args.master.now.board.journal c.accept.new.self.board.journal (g.C.Crew.told c.args.crew.now)
    (g.C.Crew.told c.next.new.self) c.in-Err-NameClash.ensures.journal c.in-Ok.ensures.told

pub returns-in-Err-TooMany-clause-end : goal.returns-in-Err-TooMany-clause-end
returns-in-Err-TooMany-clause-end g c k =
    let report = c.in-Ok.ensures.report in
    let then = g.C.Crew.out c.next.new.self in
    let there = some_of (find_order c.in-Ok.report.number c.args.master.now.board.orders) c.is_out.ensures c.if-not-is_out.false in
    overflow_ended c.requires.working k c.in-Ok.report then report there c.in-Err-TooMany.ensures.journal c.in-Err-TooMany.held c.in-Err-TooMany.given
    (rw c.in-Err-TooMany.field-0-is at c.in-Err-TooMany.ensures.refused)

pub returns-in-Err-TooMany-clause-last : goal.returns-in-Err-TooMany-clause-last
returns-in-Err-TooMany-clause-last g c =
    λ _. tells_none c.args.master.now.board.journal c.accept.new.self.board.journal (g.C.Crew.told c.args.crew.now)
    (g.C.Crew.told c.next.new.self) c.in-Err-TooMany.ensures.journal c.in-Ok.ensures.told

pub returns-then-not-is_out-clause-does : goal.returns-then-not-is_out-clause-does
returns-then-not-is_out-clause-does g c =
    let report = c.in-Ok.ensures.report in
    let then = g.C.Crew.out c.next.new.self in
    let none = none_of (find_order c.in-Ok.report.number c.args.master.now.board.orders) c.is_out.ensures c.if-not-is_out.true in
    let fits : c.in-Ok.report.number < 2 ^ 64 = search rules in
    does_throw g.K.Kit.gives g.N.Namer.digest (g.C.Crew.shop c.args.crew.now) _ g.C.Crew.goes (g.C.Crew.record_of c.args.crew.now)
    (g.C.Crew.record_of c.next.new.self) c.args.master.now.board c.in-Ok.report none
    (λ k. thrown_as c.requires.working k c.in-Ok.report then report fits none) c.in-Ok.ensures.goes

pub returns-in-Ok-Goes-clause-does : goal.returns-in-Ok-Goes-clause-does
returns-in-Ok-Goes-clause-does g c =
    let report = c.in-Ok.ensures.report in
    let then = g.C.Crew.out c.next.new.self in
    let there = some_of (find_order c.in-Ok.report.number c.args.master.now.board.orders) c.is_out.ensures c.if-not-is_out.false in
    does_accept g.K.Kit.gives g.N.Namer.digest (g.C.Crew.shop c.args.crew.now) _ g.C.Crew.goes (g.C.Crew.record_of c.args.crew.now)
    (g.C.Crew.record_of c.next.new.self) c.args.master.now c.accept.new.self c.in-Ok.report c.requires.working.namer c.in-Ok.ensures.goes
    c.in-Ok-Goes.ensures.accepted
    (λ k. taken_as c.requires.working k c.in-Ok.report then report there c.requires.rests c.accept.ensures.carried c.in-Ok-Goes.ensures.learned
    c.in-Ok-Goes.ensures.accepted)

pub returns-in-Ok-Answer-clause-ends : goal.returns-in-Ok-Answer-clause-ends
returns-in-Ok-Answer-clause-ends g c =
    let report = c.in-Ok.ensures.report in
    let then = g.C.Crew.out c.next.new.self in
    let there = some_of (find_order c.in-Ok.report.number c.args.master.now.board.orders) c.is_out.ensures c.if-not-is_out.false in
    ends_all g.K.Kit.gives g.N.Namer.digest (g.C.Crew.shop c.args.crew.now) _ g.C.Crew.goes (g.C.Crew.record_of c.args.crew.now)
    c.args.master.now.board (g.C.Crew.record_of c.next.new.self) c.accept.new.self.board c.accept.new.self.board.journal
    (does_accept g.K.Kit.gives g.N.Namer.digest (g.C.Crew.shop c.args.crew.now) _ g.C.Crew.goes (g.C.Crew.record_of c.args.crew.now)
    (g.C.Crew.record_of c.next.new.self) c.args.master.now c.accept.new.self c.in-Ok.report c.requires.working.namer c.in-Ok.ensures.goes
    c.in-Ok-Answer.ensures.accepted
    (λ k. taken_as c.requires.working k c.in-Ok.report then report there c.requires.rests c.accept.ensures.carried c.in-Ok-Answer.ensures.learned
    c.in-Ok-Answer.ensures.accepted)) refl

pub returns-in-Ok-Fault-clause-ends : goal.returns-in-Ok-Fault-clause-ends
returns-in-Ok-Fault-clause-ends g c =
    let report = c.in-Ok.ensures.report in
    let then = g.C.Crew.out c.next.new.self in
    let there = some_of (find_order c.in-Ok.report.number c.args.master.now.board.orders) c.is_out.ensures c.if-not-is_out.false in
    ends_all g.K.Kit.gives g.N.Namer.digest (g.C.Crew.shop c.args.crew.now) _ g.C.Crew.goes (g.C.Crew.record_of c.args.crew.now)
    c.args.master.now.board (g.C.Crew.record_of c.next.new.self) c.accept.new.self.board c.accept.new.self.board.journal
    (does_accept g.K.Kit.gives g.N.Namer.digest (g.C.Crew.shop c.args.crew.now) _ g.C.Crew.goes (g.C.Crew.record_of c.args.crew.now)
    (g.C.Crew.record_of c.next.new.self) c.args.master.now c.accept.new.self c.in-Ok.report c.requires.working.namer c.in-Ok.ensures.goes
    c.in-Ok-Fault.ensures.accepted
    (λ k. taken_as c.requires.working k c.in-Ok.report then report there c.requires.rests c.accept.ensures.carried c.in-Ok-Fault.ensures.learned
    c.in-Ok-Fault.ensures.accepted)) refl

pub returns-in-Err-NameClash-clause-ends : goal.returns-in-Err-NameClash-clause-ends
returns-in-Err-NameClash-clause-ends g c =
    let there = some_of (find_order c.in-Ok.report.number c.args.master.now.board.orders) c.is_out.ensures c.if-not-is_out.false in
    ends_but_last g.K.Kit.gives g.N.Namer.digest (g.C.Crew.shop c.args.crew.now) _ g.C.Crew.goes (g.C.Crew.record_of c.args.crew.now)
    (g.C.Crew.record_of c.next.new.self) c.args.master.now.board c.accept.new.self.board.journal c.in-Ok.report there c.in-Ok.ensures.goes
    c.in-Err-NameClash.ensures.journal

pub returns-in-Err-TooMany-clause-ends : goal.returns-in-Err-TooMany-clause-ends
returns-in-Err-TooMany-clause-ends g c =
    let there = some_of (find_order c.in-Ok.report.number c.args.master.now.board.orders) c.is_out.ensures c.if-not-is_out.false in
    ends_but_last g.K.Kit.gives g.N.Namer.digest (g.C.Crew.shop c.args.crew.now) _ g.C.Crew.goes (g.C.Crew.record_of c.args.crew.now)
    (g.C.Crew.record_of c.next.new.self) c.args.master.now.board c.accept.new.self.board.journal c.in-Ok.report there c.in-Ok.ensures.goes
    c.in-Err-TooMany.ensures.journal
