-- The result, or a task that it may need.
use Rattle.std.proofs.Common.{codes, refl, subst, sym, ℕ, List}
use Rattle.sky_base.specs.declared.object.TaskId.{TaskId}
use Rattle.ciel_look_tasks.specs.SceneView.{scene_view}
use Rattle.ciel_look_text.specs.Replays.{stand_of}
use Rattle.ciel_look_text.specs.Says.{Says}
use Rattle.ciel_look_text.specs.Why.{Reason}
use Rattle.ciel_look_text.proofs.why.say_reason.Goals as goal

pub returns-in_ok-say-in-Show : goal.returns-in_ok-say-in-Show
returns-in_ok-say-in-Show c =
    let s = scene_view c.args.scene.now in
    let now = stand_of c.args.scene.now c.args.replay.now in
    record {
      said = subst (λ t. (reason : List ℕ) × Reason s now t reason × Says c.args.line.now reason c.say.new.line) (sym c.in-Show.is)
          (codes "the result itself", refl, c.in_ok-say-in-Show.ensures.said);
    }

pub returns-in_ok-say_need-in-Of : goal.returns-in_ok-say_need-in-Of
returns-in_ok-say_need-in-Of c =
    let s = scene_view c.args.scene.now in
    let now = stand_of c.args.scene.now c.args.replay.now in
    record {
      said = subst (λ t. (reason : List ℕ) × Reason s now t reason × Says c.args.line.now reason c.say_need.new.line) (sym c.in-Of.is)
          c.in_ok-say_need-in-Of.ensures.said;
    }
