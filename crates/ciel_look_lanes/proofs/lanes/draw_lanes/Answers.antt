-- The grounds, the orders, the losses and a note.
use Rattle.std.proofs.Common.{◌≡◌, ap, arith, length, ◌∙◌}
use Rattle.ciel_look_tasks.specs.SceneView.{scene_view}
use Rattle.ciel_look_lanes.specs.Bars.{arrows, bars}
use Rattle.ciel_look_lanes.proofs.Bars.{draws_four}
use Rattle.ciel_look_lanes.proofs.lanes.draw_lanes.Goals as goal

pub returns : goal.returns
returns c =
    let s = c.args.scene.now in
    let grounds = c.in_ok-draw_grounds.ensures.drawn in
    let losses = c.in_ok-draw_losses.ensures.drawn in
    let all = ap length c.as_slice.ensures.value in
    let note = c.in_ok-text.ensures.drawn in
    let some = c.in_ok-draw_orders.ensures.many in
    record {
      few = λ h. draws_four (bars (scene_view s)) (arrows s) _ _ _ _ _ _ _ all grounds (c.in_ok-draw_orders.ensures.few h) losses note;
      many = (some.0, some.1, draws_four some.0 some.1 _ _ _ _ _ _ _ all grounds some.2 losses note);
    }
