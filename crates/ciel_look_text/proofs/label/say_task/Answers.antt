-- The root task, or a name.
use Rattle.std.proofs.Common.{subst, sym}
use Rattle.ciel_look_text.specs.Says.{Says}
use Rattle.ciel_look_text.specs.Words.{task_name}
use Rattle.ciel_look_text.proofs.label.say_task.Goals as goal

pub returns-in_ok-say-in-Show : goal.returns-in_ok-say-in-Show
returns-in_ok-say-in-Show c =
    record { said = subst (λ t. Says c.args.line.now (task_name t) c.say.new.line) (sym c.in-Show.is) c.in_ok-say-in-Show.ensures.said }

pub returns-in_ok-say_digits-in-Of : goal.returns-in_ok-say_digits-in-Of
returns-in_ok-say_digits-in-Of c =
    record { said = subst (λ t. Says c.args.line.now (task_name t) c.say_digits.new.line) (sym c.in-Of.is) c.in_ok-say_digits-in-Of.ensures.said }
