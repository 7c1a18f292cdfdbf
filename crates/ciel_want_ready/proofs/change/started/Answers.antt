use Rattle.ciel_want_ready.proofs.change.started.Goals as goal

pub returns-then-start : goal.returns-then-start
returns-then-start c = (
  c.in_ok-marks.marks,
  c.in_ok-node.field-0,
  c.in_ok-marks.was,
  c.in_ok-node.was,
  c.start.ensures.out c.if-start.true,
  (c.start.ensures.graph c.if-start.true).0,
  (c.start.ensures.graph c.if-start.true).1,
  c.start.ensures.right c.if-start.true,
)
