use Rattle.sky_base.specs.View.{view}
use Rattle.sky_base.specs.Op as op
use Rattle.sky_base.specs.Eval as run
use Rattle.sky_base_scope.specs.Plain as plain
use Rattle.sky_base_forms.proofs.given.range_given.Goals as goal

pub returns-clause-answer : goal.returns-clause-answer
returns-clause-answer c = λ rows. c.give.ensures.answer (op.range (view c.args.from.now) (view c.args.to.now)) c.range.ensures.answer rows
