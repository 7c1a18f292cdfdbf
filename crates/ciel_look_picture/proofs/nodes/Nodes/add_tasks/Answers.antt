-- Each, or folded.
use Rattle.std.proofs.Common.{◌++◌, ap, arith, map, ◌∙◌}
use Rattle.ciel_look_tasks.specs.SceneView.{row_view}
use Rattle.ciel_look_picture.specs.Nodes.{node_title}
use Rattle.ciel_look_picture.specs.Titles.{titles}
use Rattle.ciel_look_picture.proofs.nodes.Nodes.add_tasks.Goals as goal

pub returns-then-folded : goal.returns-then-folded
returns-then-folded c = record { titles = λ h. absurd (omega (arith, h)) }

pub returns : goal.returns
returns c =
    let s = c.args.scene.now in
    record {
      titles = λ h. c.in_ok-add_each.ensures.titles
          ∙ ap (λ ts. titles c.args.self.now.all.items ++ map node_title (map (row_view s) ts)) c.as_slice-2.ensures.value;
    }
