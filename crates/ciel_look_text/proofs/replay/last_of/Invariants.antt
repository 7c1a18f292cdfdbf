-- What is left comes behind the last one so far.
use Rattle.std.proofs.Common.{◌≡◌, None, drop, option_map}
use Rattle.ciel_look_tasks.specs.SceneView.{order_view}
use Rattle.ciel_look_text.specs.Now.{latest}
use Rattle.ciel_look_text.specs.Replays.{orders_at}
use Rattle.ciel_look_text.proofs.replay.last_of.Given as goal

abbrev pub invariant-loop-place : goal.invariant-loop-place
invariant-loop-place l =
    latest l.gone (option_map (λ r. order_view r.now) l.last) (orders_at l.scene.runs.items (drop l.place-index l.places))
    ≡ latest l.gone None (orders_at l.scene.runs.items l.places)
