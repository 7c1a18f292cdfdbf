-- One part more.
use Rattle.std.proofs.Common.{[], ◌++◌}
use Rattle.ciel_look_sheet.proofs.Drawing.{draws_none, draws_two}
use Rattle.ciel_look_lanes.proofs.lanes.draw_parts.Goals as goal

pub loop-some-init : goal.loop-some-init
loop-some-init c = ([], draws_none c.args.sheet.now.marks)

pub loop-some-preserved : goal.loop-some-preserved
loop-some-preserved c =
    let some = c.loop-some.invariant in
    let one = c.in_ok-draw_some.ensures.drawn in
    (some.0 ++ one.0, draws_two some.0 [] one.0 [] 0 0 _ _ _ some.1 one.1)
