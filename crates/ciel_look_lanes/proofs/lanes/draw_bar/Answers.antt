-- The title is that of the task, and the order.
use Rattle.std.proofs.Common.{[], ◌∷◌, subst}
use Rattle.ciel_look_tasks.specs.SceneView.{order_view, row_view}
use Rattle.ciel_look_sheet.specs.Drawn.{Draws}
use Rattle.ciel_look_sheet.specs.Titles.{row_title}
use Rattle.ciel_look_lanes.specs.Bars.{order_words}
use Rattle.ciel_look_lanes.proofs.Bars.{title_ends}
use Rattle.ciel_look_lanes.proofs.lanes.draw_bar.Goals as goal

pub returns : goal.returns
returns c =
    let title = title_ends (row_title (row_view c.args.scene.now c.args.task.now)) (order_words (order_view c.args.run.now)) _ _
    c.in_ok-tip.ensures.title c.in_ok-put_order.ensures.put in
    record {
      drawn = subst (λ n. Draws (n ∷ []) [] 0 c.args.sheet.now.marks c.boxed.new.self.marks) title c.in_ok-boxed.ensures.drawn;
    }
