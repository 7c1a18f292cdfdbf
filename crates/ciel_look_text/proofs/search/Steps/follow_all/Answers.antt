-- One name after another.
use Rattle.std.proofs.Common.{arith, refl}
use Rattle.ciel_look_tasks.specs.SceneView.{scene_view}
use Rattle.ciel_look_text.specs.Replays.{stand_of}
use Rattle.ciel_look_text.proofs.Stepping.{names_end, names_next}
use Rattle.ciel_look_text.proofs.search.Steps.follow_all.Goals as goal

pub loop-name-init : goal.loop-name-init
loop-name-init c = refl

pub loop-name-preserved : goal.loop-name-preserved
loop-name-preserved c =
    let s = c.args.scene.now in
    let l = c.loop-name in
    names_next (scene_view s) (stand_of s c.args.replay.now) c.args.from c.args.names.now l.name-index c.name-item.result l.self.all.items _ _
    (omega arith) c.name-item.is c.in_ok-follow.ensures.steps l.invariant

pub returns : goal.returns
returns c =
    let s = c.args.scene.now in
    let l = c.loop-name in
    record {
      steps = names_end (scene_view s) (stand_of s c.args.replay.now) c.args.from c.args.names.now l.name-index l.self.all.items _ (omega arith) l.invariant;
    }
