-- What is left of the names.
use Rattle.std.proofs.Common.{◌≡◌, drop}
use Rattle.ciel_look_tasks.specs.SceneView.{scene_view}
use Rattle.ciel_look_text.specs.Replays.{stand_of}
use Rattle.ciel_look_text.specs.Steps.{with_names}
use Rattle.ciel_look_text.proofs.search.Steps.follow_all.Given as goal

abbrev pub invariant-loop-name : goal.invariant-loop-name
invariant-loop-name l =
    with_names (scene_view l.scene) (stand_of l.scene l.replay) l.from (drop l.name-index l.names) l.self.all.items
    ≡ with_names (scene_view l.scene) (stand_of l.scene l.replay) l.from l.names l.initial.self.all.items
