use Rattle.sky_base.specs.Op as op
use Rattle.sky_base.specs.Eval as run
use Rattle.sky_base.specs.TreeView.{lit_view}
use Rattle.sky_base_scope.specs.Plain as plain
use Rattle.sky_base_forms.proofs.given.literal_given.Goals as goal

pub returns-clause-answer : goal.returns-clause-answer
returns-clause-answer c = λ rows. c.give.ensures.answer (op.limited (run.lit_val (lit_view c.args.value.now))) c.literal.ensures.answer rows
