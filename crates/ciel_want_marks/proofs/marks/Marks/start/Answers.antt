use Rattle.std.proofs.Common.{refl}
use Rattle.ciel_want_marks.proofs.Slots.{not_both}
use Rattle.ciel_want_marks.proofs.StartedNode.{starts}
use Rattle.ciel_want_marks.proofs.marks.Marks.start.Goals as goal

pub returns-clause-right : goal.returns-clause-right
returns-clause-right c =
    λ e needs r. starts c.args.self.now c.set_out.new.self c.unlist.new.self c.args.node c.set_out.ensures c.unlist.ensures
    (c.can_run.ensures.0 c.if-not-can_run.false) needs r

pub returns-clause-cause : goal.returns-clause-cause
returns-clause-cause c =
    (λ e. c.can_run.ensures.0 c.if-not-can_run.false, λ q. refl)

pub returns-then-not-can_run-clause-cause : goal.returns-then-not-can_run-clause-cause
returns-then-not-can_run-clause-cause c =
    (λ e. cc, λ q. not_both c.can_run.result (c.can_run.ensures.1 q) c.if-not-can_run.true)
