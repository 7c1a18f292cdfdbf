-- Each outcome by its words.
use Rattle.std.proofs.Common.{◌++◌, codes, length, subst, sym}
use Rattle.ciel_look_told.specs.View.{outcome_view}
use Rattle.ciel_look_tasks.specs.Known.{knowns}
use Rattle.ciel_look_tasks.specs.SceneView.{waits_of}
use Rattle.ciel_look_text.specs.Says.{Says}
use Rattle.ciel_look_text.specs.Text.{outcome_said, several, total}
use Rattle.ciel_look_text.specs.Words.{counted, row}
use Rattle.ciel_look_text.proofs.order.say_outcome.Goals as goal

pub returns-in_ok-say_made-in-Made : goal.returns-in_ok-say_made-in-Made
returns-in_ok-say_made-in-Made c =
    let known = knowns c.args.scene.now.known.all.items in
    record {
      said = subst (λ o. Says c.args.line.now (outcome_said known (outcome_view o) (waits_of o)) c.say_made.new.line) (sym c.in-Made.is)
          (subst (λ ws. Says c.args.line.now (codes ", made " ++ (several (length ws) ++ counted (total ws) (codes " byte") (codes " bytes"))) c.say_made.new.line)
          c.as_slice.ensures.value c.in_ok-say_made-in-Made.ensures.said);
    }

pub returns-in_ok-say_waits-in-Saved : goal.returns-in_ok-say_waits-in-Saved
returns-in_ok-say_waits-in-Saved c =
    let known = knowns c.args.scene.now.known.all.items in
    record {
      said = subst (λ o. Says c.args.line.now (outcome_said known (outcome_view o) (waits_of o)) c.say_waits.new.line) (sym c.in-Saved.is)
          (subst (λ ns. Says c.args.line.now (codes ", waits for " ++ row known ns) c.say_waits.new.line) c.as_slice-in-Saved.ensures
          c.in_ok-say_waits-in-Saved.ensures.said);
    }

pub returns-in_ok-say_answer-in-Answer : goal.returns-in_ok-say_answer-in-Answer
returns-in_ok-say_answer-in-Answer c =
    record {
      said = subst (λ o. Says c.args.line.now (outcome_said (knowns c.args.scene.now.known.all.items) (outcome_view o) (waits_of o)) c.say_answer.new.line)
          (sym c.in-Answer.is) c.in_ok-say_answer-in-Answer.ensures.said;
    }

pub returns-in_ok-say-in-Fault : goal.returns-in_ok-say-in-Fault
returns-in_ok-say-in-Fault c =
    record {
      said = subst (λ o. Says c.args.line.now (outcome_said (knowns c.args.scene.now.known.all.items) (outcome_view o) (waits_of o)) c.say.new.line)
          (sym c.in-Fault.is) c.in_ok-say-in-Fault.ensures.said;
    }

pub returns-in_ok-say_missing-in-Missing : goal.returns-in_ok-say_missing-in-Missing
returns-in_ok-say_missing-in-Missing c =
    record {
      said = subst (λ o. Says c.args.line.now (outcome_said (knowns c.args.scene.now.known.all.items) (outcome_view o) (waits_of o)) c.say_missing.new.line)
          (sym c.in-Missing.is) c.in_ok-say_missing-in-Missing.ensures.said;
    }
