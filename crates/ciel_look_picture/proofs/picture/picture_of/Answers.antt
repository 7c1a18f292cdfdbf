-- The head, the legend, the lanes and the graph.
use Rattle.std.proofs.Common.{◌≡◌, ◌≤◌, ◌++◌, length, subst, sym}
use Rattle.std.proofs.lemmas.List.{length-map}
use Rattle.ciel_look_tasks.specs.SceneView.{row_view, scene_view, taken_view}
use Rattle.ciel_look_lanes.specs.Bars.{arrows, bars}
use Rattle.ciel_look_picture.specs.Nodes.{nodes}
use Rattle.ciel_look_picture.proofs.Drawing.{draws_all}
use Rattle.ciel_look_picture.proofs.picture.picture_of.Goals as goal

pub returns-clause-shows : goal.returns-clause-shows
returns-clause-shows c =
    let scene = c.args.scene.now in
    let s = scene_view scene in
    let copies = arrows scene in
    let tasks : length s.rows ≡ length scene.roll.tasks.items = length-map scene.roll.tasks.items (row_view scene) in
    let losses : length scene.losses.items ≡ length s.losses = sym (length-map scene.losses.items (taken_view scene)) in
    let none = c.new-sheet.ensures.marks in
    let head = c.in_ok-text.ensures.drawn in
    let legend = c.in_ok-draw_legend.ensures.drawn in
    let lanes = c.in_ok-draw_lanes.ensures.many in
    let graph = c.in_ok-draw_graph.ensures.many in
    record {
      marks = c.draw_graph.new.sheet.marks;
      holds = c.in_ok-picture.ensures.drawn;
      few = λ h.
          let small : length scene.roll.tasks.items ≤ 300 = subst (λ n. n ≤ 300) tasks h in
          let more = c.in_ok-draw_graph.ensures.few small in (
            copies ++ more.0,
            draws_all (bars s) copies (nodes s) more.0 _ _ _ _ _ _ _ losses none head legend (c.in_ok-draw_lanes.ensures.few small) more.1,
          );
      many = (
        lanes.0 ++ graph.0,
        lanes.1 ++ graph.1,
        draws_all lanes.0 lanes.1 graph.0 graph.1 _ _ _ _ _ _ _ losses none head legend lanes.2 graph.2,
      );
    }
