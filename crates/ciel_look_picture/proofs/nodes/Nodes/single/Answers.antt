-- Its title is that of the task.
use Rattle.std.proofs.Common.{ap, ◌∙◌}
use Rattle.ciel_look_picture.specs.Titles.{titles}
use Rattle.ciel_look_picture.proofs.NodeTitles.{titles_push}
use Rattle.ciel_look_picture.proofs.nodes.Nodes.single.Goals as goal

pub returns : goal.returns
returns c =
    record { titles = ap titles c.name.ensures.nodes ∙ titles_push _ _ _ _ c.in_ok-push.ensures.pushed c.in_ok-tip.ensures.title }
