-- The bars so far.
use Rattle.std.proofs.Common.{[], flat_map, take}
use Rattle.ciel_look_tasks.specs.SceneView.{order_view, scene_view}
use Rattle.ciel_look_sheet.specs.Drawn.{Draws}
use Rattle.ciel_look_lanes.specs.Bars.{bar_titles}
use Rattle.ciel_look_lanes.proofs.lanes.draw_runs.Given as goal

abbrev pub invariant-loop-run : goal.invariant-loop-run
invariant-loop-run l =
    Draws (flat_map (λ r. bar_titles (scene_view l.scene).rows (order_view r)) (take l.run-index l.runs)) [] 0 l.initial.sheet.marks l.sheet.marks
