-- One step after another.
use Rattle.std.proofs.Common.{Some, None, ap, arith, slice_get, sym, ◌∙◌}
use Rattle.ciel_look_tasks.specs.SceneView.{scene_view}
use Rattle.ciel_look_tasks.proofs.KnownSteps.{get_is}
use Rattle.ciel_look_text.specs.Replays.{stand_of}
use Rattle.ciel_look_text.proofs.Stepping.{get_past, search_begun, search_next, search_over}
use Rattle.ciel_look_text.proofs.search.search.Goals as goal

pub loop-i-init : goal.loop-i-init
loop-i-init c =
    let s = c.args.scene.now in
    search_begun (scene_view s) (stand_of s c.args.replay.now) c.new-steps.result.all.items c.expand.new.self.all.items c.new-steps.ensures.none
    c.in_ok-expand.ensures.steps

pub loop-i-preserved : goal.loop-i-preserved
loop-i-preserved c =
    let s = c.args.scene.now in
    let l = c.loop-i in
    search_next (scene_view s) (stand_of s c.args.replay.now) l.i l.steps.all.items _ c.in-Some.step (sym c.in-Some.ensures) l.invariant c.in_ok-expand-2.ensures.steps

pub returns-in_default : goal.returns-in_default
returns-in_default c =
    let s = c.args.scene.now in
    let l = c.loop-i in
    record {
      searched = search_over (scene_view s) (stand_of s c.args.replay.now) l.i l.steps.all.items (get_past l.steps.all.items l.i (sym c.in_default.ensures)) l.invariant;
    }

pub returns : goal.returns
returns c =
    let s = c.args.scene.now in
    let l = c.loop-i in
    record { searched = search_over (scene_view s) (stand_of s c.args.replay.now) l.i l.steps.all.items (omega (arith, l.steps.all.ok.0, l.steps.all.ok.1, l.steps.all.small)) l.invariant }
