-- None so far is at a worker that isn't lost.
use Rattle.std.proofs.Common.{◌≡◌, drop}
use Rattle.ciel_look_tasks.specs.ObjectPlaces.{first_run}
use Rattle.ciel_look_tasks.proofs.places.first_there.Given as goal

abbrev pub invariant-loop-place : goal.invariant-loop-place
invariant-loop-place l = first_run l.gone l.places ≡ first_run l.gone (drop l.place-index l.places)
