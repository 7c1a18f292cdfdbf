use Rattle.std.proofs.Common.{◌≡◌, List, ℕ, take}
use Rattle.sky_machine_show.specs.Given.{name_place, place_at}
use Rattle.sky_machine_show.proofs.given.Given.new.Given as goal

abbrev pub invariant-loop-place : goal.invariant-loop-place
invariant-loop-place l = (x : List ℕ) → place_at l.places x ≡ name_place x (take l.place l.names)
