-- One bar more.
use Rattle.std.proofs.Common.{List, ℕ, [], arith, subst}
use Rattle.ciel_look_tasks.specs.SceneView.{order_view, scene_view}
use Rattle.ciel_look_tasks.specs.declared.scene.Run.{Run}
use Rattle.ciel_look_sheet.specs.Drawn.{Draws}
use Rattle.ciel_look_sheet.proofs.Drawing.{draws_none}
use Rattle.ciel_look_lanes.specs.Bars.{bar_titles}
use Rattle.ciel_look_lanes.proofs.Bars.{bars_seen, boxes_all, boxes_next}
use Rattle.ciel_look_lanes.proofs.lanes.draw_runs.Goals as goal

pub loop-run-init : goal.loop-run-init
loop-run-init c = draws_none c.args.sheet.now.marks

pub loop-run-preserved : goal.loop-run-preserved
loop-run-preserved c =
    let l = c.loop-run in
    let title : Run → List (List ℕ) = λ r. bar_titles (scene_view c.args.scene.now).rows (order_view r) in
    boxes_next title c.args.runs.now c.args.sheet.now.marks l.run-index c.run-item.result _ _ (omega arith) c.run-item.is
    l.invariant c.in_ok-draw_run.ensures.drawn

pub returns : goal.returns
returns c =
    let l = c.loop-run in
    let rows = (scene_view c.args.scene.now).rows in
    let title : Run → List (List ℕ) = λ r. bar_titles rows (order_view r) in
    record {
      drawn = subst (λ bs. Draws bs [] 0 c.args.sheet.now.marks l.sheet.marks) (bars_seen rows c.args.runs.now)
          (boxes_all title c.args.runs.now c.args.sheet.now.marks l.run-index _ (omega arith) l.invariant);
    }
