-- Of the task's row.
use Rattle.std.proofs.Common.{[], map, sym, subst}
use Rattle.ciel_look_tasks.specs.SceneView.{one_of, order_view}
use Rattle.ciel_look_sheet.specs.Drawn.{Draws}
use Rattle.ciel_look_sheet.proofs.Drawing.{draws_none}
use Rattle.ciel_look_lanes.specs.Bars.{bar_title}
use Rattle.ciel_look_lanes.proofs.lanes.draw_run.Goals as goal

pub returns-in_ok-draw_bar-in-Some : goal.returns-in_ok-draw_bar-in-Some
returns-in_ok-draw_bar-in-Some c =
    record {
      drawn = subst (λ o. Draws (map (bar_title (order_view c.args.run.now)) (one_of o)) [] 0 c.args.sheet.now.marks c.draw_bar.new.sheet.marks)
          (sym c.in-Some.ensures.row) c.in_ok-draw_bar-in-Some.ensures.drawn;
    }

pub returns-in-None : goal.returns-in-None
returns-in-None c =
    record {
      drawn = subst (λ o. Draws (map (bar_title (order_view c.args.run.now)) (one_of o)) [] 0 c.args.sheet.now.marks c.args.sheet.now.marks)
          (sym c.in-None.ensures.row) (draws_none c.args.sheet.now.marks);
    }
