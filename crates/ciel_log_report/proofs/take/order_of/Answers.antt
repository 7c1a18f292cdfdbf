use Rattle.std.proofs.Common.{◌∙◌}
use Rattle.ciel_log_report.proofs.Found.{at_item, none_all, none_first, none_free, none_other}
use Rattle.ciel_log_report.proofs.take.order_of.Goals as goal
use Rattle.ciel_log_report.proofs.take.order_of.Goals.{in-Some+else-order-number, in_default}

pub loop-slot-init : goal.loop-slot-init
loop-slot-init c = none_first c.args.out.now c.args.number

pub loop-slot-preserved : goal.loop-slot-preserved
loop-slot-preserved c =
    let out = c.args.out.now in
    let i = c.loop-slot.slot-index in
    let at = at_item out i c.slot-item.result c.loop-slot-test.true c.slot-item.is in
    elim c.match-slot.branch [
      | in-Some+else-order-number w ↦ none_other out c.args.number i w.in-Some.order (at ∙ w.in-Some.is) w.if-order-number.false c.loop-slot.invariant
      | in_default w ↦ none_free out c.args.number i (at ∙ w.in_default.is) c.loop-slot.invariant
    ]

pub returns-then-order-number-clause-there : goal.returns-then-order-number-clause-there
returns-then-order-number-clause-there c = (
  c.loop-slot.slot-index,
  at_item c.args.out.now c.loop-slot.slot-index c.slot-item.result c.loop-slot-test.true c.slot-item.is ∙ c.in-Some.is,
)

pub returns-clause-none : goal.returns-clause-none
returns-clause-none c = none_all c.args.out.now c.args.number c.loop-slot.slot-index c.loop-slot.invariant c.loop-slot-test.false
