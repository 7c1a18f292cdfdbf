-- By the steps.
use Rattle.ciel_look_tasks.specs.SceneView.{scene_view}
use Rattle.ciel_look_text.specs.Replays.{stand_of}
use Rattle.ciel_look_text.proofs.Stepping.{no_chain, shortest_there}
use Rattle.ciel_look_text.proofs.search.chain_to.Goals as goal

pub returns-in-Some : goal.returns-in-Some
returns-in-Some c =
    let s = c.args.scene.now in
    let steps = c.in_ok-steps.steps in
    record {
      chain = shortest_there (scene_view s) (stand_of s c.args.replay.now) steps.all.items c.in_ok-steps.ensures.searched c.args.name.now c.in-Some.place _
          c.in-Some.ensures.place c.in_ok-names-in-Some.ensures.names;
    }

pub returns : goal.returns
returns c =
    let s = c.args.scene.now in
    let steps = c.in_ok-steps.steps in
    record {
      chain = no_chain (scene_view s) (stand_of s c.args.replay.now) steps.all.items c.in_ok-steps.ensures.searched c.args.name.now c.in-None.ensures.place;
    }
