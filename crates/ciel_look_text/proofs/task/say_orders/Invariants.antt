-- What was put so far.
use Rattle.std.proofs.Common.{codes, map, take, true}
use Rattle.ciel_look_tasks.specs.SceneView.{picked}
use Rattle.ciel_look_tasks.specs.Known.{knowns}
use Rattle.ciel_look_text.specs.Runs.{run_said}
use Rattle.ciel_look_text.specs.Says.{SaysSome}
use Rattle.ciel_look_text.proofs.task.say_orders.Given as goal

abbrev pub invariant-loop-place : goal.invariant-loop-place
invariant-loop-place l =
    SaysSome (codes ": ") (codes "; ") true l.initial.line (map (run_said (knowns l.scene.known.all.items)) (picked l.scene.runs.items (take l.place-index l.places))) l.line l.first
