-- The losses told so far; with each fewer are left.
use Rattle.std.proofs.Common.{◌≡◌, [], map}
use Rattle.ciel_look_story.specs.Inside.{Goes, left, stand_of}
use Rattle.ciel_look_told.specs.View.{told_view}
use Rattle.ciel_look_story.proofs.story.tell_losses.Given as goal

abbrev pub invariant-loop-worker : goal.invariant-loop-worker
invariant-loop-worker l =
    Goes l.losses (stand_of l.initial.teller) [] (map told_view l.initial.told.items) (map told_view l.told.items) (stand_of l.teller)
    × (l.teller.closes ≡ l.initial.teller.closes)

abbrev pub decreases-loop-worker : goal.decreases-loop-worker
decreases-loop-worker l = left l.losses l.teller.gone.items
