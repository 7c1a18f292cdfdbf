-- A bar for each, or folded.
use Rattle.std.proofs.Common.{◌≡◌, [], ap, arith, flat_map, length, map, subst, sym, ◌∙◌}
use Rattle.ciel_look_tasks.specs.SceneView.{order_view, scene_view}
use Rattle.ciel_look_sheet.specs.Drawn.{Draws}
use Rattle.ciel_look_lanes.specs.Bars.{arrows, bar_titles, bars, copy_titles}
use Rattle.ciel_look_lanes.proofs.Bars.{draws_both}
use Rattle.ciel_look_lanes.proofs.lanes.draw_orders.Goals as goal

pub returns-then-few : goal.returns-then-few
returns-then-few c =
    let s = c.args.scene.now in
    let boxes = subst (λ rs. Draws (flat_map (bar_titles (scene_view s).rows) (map order_view rs)) [] 0 c.args.sheet.now.marks
    c.draw_runs.new.sheet.marks) c.as_slice.ensures.value c.in_ok-draw_runs.ensures.drawn in
    let copies = subst (λ cs. Draws [] (flat_map (copy_titles s) cs) 0 c.draw_runs.new.sheet.marks c.draw_copies.new.sheet.marks)
    c.as_slice-then-few.ensures.value c.in_ok-draw_copies.ensures.drawn in
    let all = draws_both (bars (scene_view s)) (arrows s) _ _ _ boxes copies in
    record { few = λ h. all; many = (bars (scene_view s), arrows s, all) }

pub returns : goal.returns
returns c =
    let some = c.in_ok-draw_all_folded.ensures.drawn in
    record { few = λ h. absurd (omega (arith, h)); many = (some.0, [], some.1) }
