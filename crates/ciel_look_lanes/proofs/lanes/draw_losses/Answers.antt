-- One cross more.
use Rattle.std.proofs.Common.{◌≡◌, arith, length}
use Rattle.ciel_look_sheet.proofs.Drawing.{draws_none}
use Rattle.ciel_look_lanes.proofs.Bars.{cross_next, crosses_all}
use Rattle.ciel_look_lanes.proofs.lanes.draw_losses.Goals as goal

pub loop-loss-init : goal.loop-loss-init
loop-loss-init c = draws_none c.args.sheet.now.marks

pub loop-loss-preserved : goal.loop-loss-preserved
loop-loss-preserved c = cross_next c.loop-loss.loss-index _ _ _ c.loop-loss.invariant c.in_ok-draw_loss.ensures.drawn

pub returns : goal.returns
returns c =
    let l = c.loop-loss in
    let all : l.loss-index ≡ length c.args.losses.now = omega arith in
    record { drawn = crosses_all (length c.args.losses.now) l.loss-index _ _ all l.invariant }
