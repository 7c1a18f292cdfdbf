use Rattle.sky_base.specs.Val.{list}
use Rattle.sky_base.specs.Op as op
use Rattle.sky_base.specs.Eval as run
use Rattle.sky_base_scope.specs.Plain as plain
use Rattle.sky_base_forms.proofs.given.list_given.Goals as goal

pub returns-clause-answer : goal.returns-clause-answer
returns-clause-answer c = λ rows. c.give_exact.ensures.answer (op.limited (list c.args.vs)) c.limited.ensures.answer rows
