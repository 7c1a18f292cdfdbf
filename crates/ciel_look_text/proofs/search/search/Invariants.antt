-- The steps so far are followed.
use Rattle.ciel_look_tasks.specs.SceneView.{scene_view}
use Rattle.ciel_look_text.specs.Chains.{IsSearched}
use Rattle.ciel_look_text.specs.Replays.{stand_of}
use Rattle.ciel_look_text.proofs.search.search.Given as goal

abbrev pub invariant-loop-i : goal.invariant-loop-i
invariant-loop-i l = IsSearched (scene_view l.scene) (stand_of l.scene l.replay) l.i l.steps.all.items
