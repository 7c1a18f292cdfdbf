-- The nodes so far.
use Rattle.std.proofs.Common.{◌≡◌, ◌++◌, flat_map, take}
use Rattle.ciel_look_picture.specs.Titles.{titles}
use Rattle.ciel_look_picture.proofs.NodeTitles.{title_of_task}
use Rattle.ciel_look_picture.proofs.nodes.Nodes.add_each.Given as goal

abbrev pub invariant-loop-task : goal.invariant-loop-task
invariant-loop-task l =
    titles l.self.all.items ≡ titles l.initial.self.all.items ++ flat_map (title_of_task l.scene) (take l.task-index l.tasks)
