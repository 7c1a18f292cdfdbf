use Rattle.std.proofs.Common.{◌∙◌, sym}
use Rattle.ciel_want_marks.proofs.Slots.{on_ok}
use Rattle.ciel_want_marks.proofs.NodeAdvance.{goes_listed, goes_not, goes_watching, is_active, not_active}
use Rattle.ciel_want_marks.proofs.marks.Marks.go_on.Goals as goal

pub returns-in-None-clause-stands : goal.returns-in-None-clause-stands
returns-in-None-clause-stands c =
    on_ok c.list_it.result (λ l needs fresh late f s.
    goes_listed c.args.self.now c.settle.new.self c.list_it.new.self c.args.node needs fresh late f s
    (is_active c.args.self.now c.args.node (sym c.is_active.ensures.active ∙ c.if-not-is_active.false)) c.in-None.ensures l) c.list_it.ensures

pub returns-in-Some-clause-stands : goal.returns-in-Some-clause-stands
returns-in-Some-clause-stands c =
    on_ok c.watch.result (λ l needs fresh late f s.
    goes_watching c.args.self.now c.settle.new.self c.watch.new.self c.args.node needs fresh late f s
    (is_active c.args.self.now c.args.node (sym c.is_active.ensures.active ∙ c.if-not-is_active.false)) c.in-Some.row c.in-Some.ensures l)
    c.watch.ensures

pub returns-then-not-is_active-clause-stands : goal.returns-then-not-is_active-clause-stands
returns-then-not-is_active-clause-stands c =
    λ needs fresh late f s. goes_not c.args.self.now c.args.node needs fresh late
    (not_active c.args.self.now c.args.node (sym c.is_active.ensures.active ∙ c.if-not-is_active.true)) s
