-- Nothing is known.
use Rattle.ciel_look_tasks.proofs.KnownSteps.{made_none}
use Rattle.ciel_look_tasks.proofs.register.Register.new.Goals as goal

pub returns-clause-made : goal.returns-clause-made
returns-clause-made c = λ b. made_none b _ c.new.ensures.items
