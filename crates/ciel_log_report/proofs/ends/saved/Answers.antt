use Rattle.std.proofs.Common.{ap, arith, subst, sym, ◌∙◌}
use Rattle.sha1.specs.Sha1.{sha1}
use Rattle.ciel_log_report.proofs.Parts.{saved_is}
use Rattle.ciel_log_report.proofs.Refused.{same_holds, same_refs}
use Rattle.ciel_master_board.specs.Reports.{learned_all}
use Rattle.ciel_want.specs.Waited.{AllKnown}
use Rattle.ciel_log_report.proofs.ends.saved.Goals as goal

pub returns-then-not-has_none-clause-refused : goal.returns-then-not-has_none-clause-refused
returns-then-not-has_none-clause-refused g c p = c.has_none.ensures.some c.if-not-has_none.true p.none

pub returns-then-j-order-clause-refused : goal.returns-then-j-order-clause-refused
returns-then-j-order-clause-refused g c p = let l = p.later in absurd (omega arith)

pub returns-then-not-can_wait-clause-refused : goal.returns-then-not-can_wait-clause-refused
returns-then-not-can_wait-clause-refused g c p = c.can_wait.ensures.no c.if-not-can_wait.true p.can

pub returns-in_default-clause-refused : goal.returns-in_default-clause-refused
returns-in_default-clause-refused g c p =
    let none = rw c.in_default.is at c.in_ok-read.ensures.none in none p.stack p.refs p.holds p.spelled p.is_stack p.bytes_of

pub returns-then-not-has_all-clause-refused : goal.returns-then-not-has_all-clause-refused
returns-then-not-has_all-clause-refused g c p =
    let n = c.in_ok-read.ensures in
    let s = c.in-Some.stack in
    let stack = rw c.in-Some.is at n.stack in
    let same = rw c.in-Some.is at n.bytes in
    let spelled = rw c.in-Some.is at n.spelled in
    let one = same_refs c.args.fitting.now c.args.order.now.task c.args.j c.args.bytes.now p.stack s.frozen p.refs p.holds s.refs s.holds p.spelled
    spelled p.bytes_of same p.is_stack stack in
    c.has_all.ensures.no c.if-not-has_all.true (λ x. x)
    (subst (AllKnown (learned_all (λ x. x) c.args.known.now.spawned c.args.known.now.table)) (one ∙ sym c.as_slice-waited.ensures) (p.refs_known (λ x. x)))

pub returns-then-not-has_all-2-clause-refused : goal.returns-then-not-has_all-2-clause-refused
returns-then-not-has_all-2-clause-refused g c p =
    let n = c.in_ok-read.ensures in
    let s = c.in-Some.stack in
    let stack = rw c.in-Some.is at n.stack in
    let same = rw c.in-Some.is at n.bytes in
    let spelled = rw c.in-Some.is at n.spelled in
    let one = same_holds c.args.fitting.now c.args.order.now.task c.args.j c.args.bytes.now p.stack s.frozen p.refs p.holds s.refs s.holds p.spelled
    spelled p.bytes_of same p.is_stack stack in
    c.has_all-2.ensures.no c.if-not-has_all-2.true (λ x. x)
    (subst (AllKnown (learned_all (λ x. x) c.args.known.now.spawned c.args.known.now.table)) (one ∙ sym c.as_slice-held.ensures) (p.holds_known (λ x. x)))

pub returns-in-Ok-clause-saved : goal.returns-in-Ok-clause-saved
returns-in-Ok-clause-saved g c =
    let n = c.in_ok-read.ensures in
    let s = c.in-Some.stack in
    let stack = rw c.in-Some.is at n.stack in
    let same = rw c.in-Some.is at n.bytes in
    let spelled = rw c.in-Some.is at n.spelled in
    let refs = c.has_all.ensures.yes c.if-not-has_all.false in
    let holds = c.has_all-2.ensures.yes c.if-not-has_all-2.false in
    saved_is c.args.order.now c.args.shelves.now c.args.fitting.now c.args.known.now c.args.j c.args.bytes.now c.mark-mark.result
    c.args.copied.now c.new.result.items c.in-Ok.frozen s.refs s.holds s.frozen c.in-Ok.ensures.put
    (c.mark-mark.ensures.mark ∙ ap sha1 (c.bytes.ensures ∙ same)) (c.has_none.ensures.none c.if-not-has_none.false) c.new.ensures.items
    (c.can_wait.ensures.yes c.if-not-can_wait.false) (omega arith) stack same spelled (rw c.as_slice-waited.ensures at refs)
    (rw c.as_slice-held.ensures at holds)
