-- What was put so far.
use Rattle.std.proofs.Common.{codes, map, take, true}
use Rattle.ciel_look_tasks.specs.SceneView.{picked}
use Rattle.ciel_look_text.specs.Runs.{number_said}
use Rattle.ciel_look_text.specs.Says.{SaysSome}
use Rattle.ciel_look_text.proofs.loss.say_numbers.Given as goal

abbrev pub invariant-loop-place : goal.invariant-loop-place
invariant-loop-place l =
    SaysSome (codes "start ") (codes ", start ") true l.initial.line (map number_said (picked l.scene.runs.items (take l.place-index l.places))) l.line l.first
