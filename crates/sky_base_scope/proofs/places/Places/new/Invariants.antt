use Rattle.std.proofs.Common.{◌≡◌, List, ℕ, take}
use Rattle.sky_base.specs.ScriptView.{funs_view}
use Rattle.sky_base_scope.specs.FunPlace.{fun_place, place_at}
use Rattle.sky_base_scope.proofs.places.Places.new.Given as goal

abbrev pub invariant-loop-place : goal.invariant-loop-place
invariant-loop-place l = (x : List ℕ) → place_at l.map.entries x ≡ fun_place x (funs_view (take l.place l.funs))
