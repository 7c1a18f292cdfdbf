-- Out, lost, or as its report tells.
use Rattle.std.proofs.Common.{Some, subst, sym}
use Rattle.ciel_look_tasks.specs.Known.{knowns}
use Rattle.ciel_look_tasks.specs.SceneView.{end_view, how_view}
use Rattle.ciel_look_text.specs.Says.{Says}
use Rattle.ciel_look_text.specs.Text.{close_said}
use Rattle.ciel_look_text.proofs.order.say_close.Goals as goal

pub returns-in_ok-say-in-None : goal.returns-in_ok-say-in-None
returns-in_ok-say-in-None c =
    record {
      said = subst (λ e. Says c.args.line.now (close_said (knowns c.args.scene.now.known.all.items) (end_view e)) c.say.new.line)
          (sym c.in-None.is) c.in_ok-say-in-None.ensures.said;
    }

pub returns-in_ok-say-in-Lost : goal.returns-in_ok-say-in-Lost
returns-in_ok-say-in-Lost c =
    let known = knowns c.args.scene.now.known.all.items in
    record {
      said = subst (λ e. Says c.args.line.now (close_said known (end_view e)) c.say-in-Lost.new.line) (sym c.in-Some.is)
          (subst (λ h. Says c.args.line.now (close_said known (how_view h)) c.say-in-Lost.new.line) (sym c.in-Lost.is)
          c.in_ok-say-in-Lost.ensures.said);
    }

pub returns-in_ok-say_outcome-in-Told : goal.returns-in_ok-say_outcome-in-Told
returns-in_ok-say_outcome-in-Told c =
    let known = knowns c.args.scene.now.known.all.items in
    record {
      said = subst (λ e. Says c.args.line.now (close_said known (end_view e)) c.say_outcome.new.line) (sym c.in-Some.is)
          (subst (λ h. Says c.args.line.now (close_said known (how_view h)) c.say_outcome.new.line) (sym c.in-Told.is)
          c.in_ok-say_outcome-in-Told.ensures.said);
    }
