-- What is there leads nowhere.
use Rattle.std.proofs.Common.{None, ap, cond, sym, ◌∙◌}
use Rattle.ciel_look_tasks.specs.Known.{maker_as}
use Rattle.ciel_look_tasks.specs.SceneView.{scene_view}
use Rattle.ciel_look_text.specs.Replays.{stand_of}
use Rattle.ciel_look_text.specs.Steps.{started_of}
use Rattle.ciel_look_text.proofs.Stepping.{target_lacks, target_there}
use Rattle.ciel_look_text.proofs.search.target.Goals as goal

pub returns-then-is_there : goal.returns-then-is_there
returns-then-is_there c =
    let s = c.args.scene.now in
    sym (target_there (scene_view s) (stand_of s c.args.replay.now) c.args.name.now (sym c.is_there.ensures ∙ c.if-is_there.true))

pub returns-in-Some : goal.returns-in-Some
returns-in-Some c =
    let s = scene_view c.args.scene.now in
    c.started.ensures ∙ sym (target_lacks s (stand_of c.args.scene.now c.args.replay.now) c.args.name.now (sym c.is_there.ensures ∙ c.if-is_there.false) ∙ ap (started_of s.rows) c.in-Some.ensures.maker)

pub returns-in-None : goal.returns-in-None
returns-in-None c =
    let s = scene_view c.args.scene.now in
    sym (target_lacks s (stand_of c.args.scene.now c.args.replay.now) c.args.name.now (sym c.is_there.ensures ∙ c.if-is_there.false) ∙ ap (started_of s.rows) c.in-None.ensures.maker)
