-- The nodes so far.
use Rattle.std.proofs.Common.{◌≡◌, ◌++◌, flat_map, take}
use Rattle.ciel_look_picture.specs.Titles.{titles}
use Rattle.ciel_look_picture.proofs.NodeTitles.{title_of_input}
use Rattle.ciel_look_picture.proofs.nodes.Nodes.add_inputs.Given as goal

abbrev pub invariant-loop-known : goal.invariant-loop-known
invariant-loop-known l =
    titles l.self.all.items ≡ titles l.initial.self.all.items ++ flat_map title_of_input (take l.known-index l.all)
