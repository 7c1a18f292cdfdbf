-- One arrow more.
use Rattle.std.proofs.Common.{arith}
use Rattle.ciel_look_sheet.proofs.Drawing.{draws_none}
use Rattle.ciel_look_lanes.specs.Bars.{copy_titles}
use Rattle.ciel_look_lanes.proofs.Bars.{arrows_all, arrows_next}
use Rattle.ciel_look_lanes.proofs.lanes.draw_copies.Goals as goal

pub loop-copied-init : goal.loop-copied-init
loop-copied-init c = draws_none c.args.sheet.now.marks

pub loop-copied-preserved : goal.loop-copied-preserved
loop-copied-preserved c =
    let l = c.loop-copied in
    arrows_next (copy_titles c.args.scene.now) c.args.copies.now c.args.sheet.now.marks l.copied-index c.copied-item.result _ _ (omega arith)
    c.copied-item.is l.invariant c.in_ok-draw_copy.ensures.drawn

pub returns : goal.returns
returns c =
    let l = c.loop-copied in
    record { drawn = arrows_all (copy_titles c.args.scene.now) c.args.copies.now c.args.sheet.now.marks l.copied-index _ (omega arith) l.invariant }
