use Rattle.std.proofs.Common.{◌∙◌, add-one, ap, drop}
use Rattle.ciel_want.specs.Board.{rows_whole}
use Rattle.ciel_want.proofs.WholenessTest.{row_goes, row_stops}
use Rattle.ciel_want.proofs.whole.rows_whole.Goals as goal

pub returns-then-not-branch : goal.returns-then-not-branch
returns-then-not-branch g c =
    row_stops c.args.main.now c.args.table.now c.loop-id.id c.row.result.now c.in_ok-row_whole.field-0 c.loop-id.invariant c.row.ensures.row
    c.in_ok-row_whole.ensures c.if-not-branch.true

pub loop-id-preserved : goal.loop-id-preserved
loop-id-preserved g c =
    let t = c.args.table.now in
    ap (λ i. rows_whole c.args.main.now t (drop i t.rows)) (add-one c.loop-id.id)
    ∙ row_goes c.args.main.now t c.loop-id.id c.row.result.now c.in_ok-row_whole.field-0 c.loop-id.invariant c.row.ensures.row
    c.in_ok-row_whole.ensures c.if-not-branch.false
