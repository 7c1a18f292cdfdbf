-- First the inputs, then the tasks.
use Rattle.std.proofs.Common.{◌++◌, ap, flat_map, map, ◌∙◌}
use Rattle.ciel_look_tasks.specs.Known.{knowns}
use Rattle.ciel_look_tasks.specs.SceneView.{scene_view}
use Rattle.ciel_look_picture.specs.Nodes.{input_title, node_title}
use Rattle.ciel_look_picture.specs.Titles.{titles}
use Rattle.ciel_look_picture.proofs.nodes.nodes_of.Goals as goal

pub returns : goal.returns
returns c =
    let s = scene_view c.args.scene.now in
    let first = c.in_ok-add_inputs.ensures.titles
    ∙ ap (λ z. z ++ flat_map input_title (knowns c.as_slice.result.now)) c.new-nodes.ensures.titles
    ∙ ap (λ ks. flat_map input_title (knowns ks)) c.as_slice.ensures.value in
    record { titles = λ h. c.in_ok-add_tasks.ensures.titles h ∙ ap (λ z. z ++ map node_title s.rows) first }
