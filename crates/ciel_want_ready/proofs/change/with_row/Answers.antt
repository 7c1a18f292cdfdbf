use Rattle.std.proofs.Common.{◌∙◌, sym}
use Rattle.ciel_want_ready.proofs.FitsAfterCall.{same_row}
use Rattle.ciel_want_ready.proofs.change.with_row.Goals as goal

pub returns-in-Ok-true : goal.returns-in-Ok-true
returns-in-Ok-true g c = (
  c.row-held.result.now,
  c.row-held.ensures.row,
  (
    sym c.has.ensures ∙ c.if-has.false,
    same_row c.args.table.now c.row-held.result.now c.args.marks c.add.new.self c.is_live.result
        c.node_of-maker.result c.is_live.ensures.live c.node_of-maker.ensures (c.in-Ok-true.ensures.right c.in-Ok-true.field-0-test),
  ),
)
