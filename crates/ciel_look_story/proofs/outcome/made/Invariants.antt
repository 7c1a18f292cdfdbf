-- The weights of the objects before the index.
use Rattle.std.proofs.Common.{◌≡◌, map, take}
use Rattle.sky_base.specs.ObjectView.{object_view}
use Rattle.ciel_look_told.specs.Told.{weight}
use Rattle.ciel_look_story.proofs.outcome.made.Given as goal

abbrev pub invariant-loop-object : goal.invariant-loop-object
invariant-loop-object l = l.weights.items ≡ map (λ o. weight (object_view o)) (take l.object-index l.objects)
