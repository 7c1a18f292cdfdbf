-- The boxes so far.
use Rattle.std.proofs.Common.{[], flat_map, take}
use Rattle.ciel_look_sheet.specs.Drawn.{Draws}
use Rattle.ciel_look_picture.proofs.NodeTitles.{title_of}
use Rattle.ciel_look_picture.proofs.graph.draw_nodes.Given as goal

abbrev pub invariant-loop-node : goal.invariant-loop-node
invariant-loop-node l = Draws (flat_map title_of (take l.node-index l.nodes)) [] 0 l.initial.sheet.marks l.sheet.marks
