use Rattle.std.proofs.Common.{inr}
use Rattle.ciel_want_ready.proofs.change.placed.Goals as goal

pub returns-in-Ok-true : goal.returns-in-Ok-true
returns-in-Ok-true c = (
  c.in_ok-marks.marks,
  c.in_ok-marks.was,
  inr (
    c.if-was.false,
    c.in_ok-row.field-0,
    c.in_ok-row.was,
    c.in-Ok-true.ensures.placed c.in-Ok-true.field-0-test,
    c.in-Ok-true.ensures.right c.in-Ok-true.field-0-test,
  ),
)
