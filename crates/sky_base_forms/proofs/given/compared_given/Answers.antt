use Rattle.sky_base.specs.View.{view}
use Rattle.sky_base.specs.Op as op
use Rattle.sky_base.specs.Eval as run
use Rattle.sky_base.specs.TreeView.{order_view}
use Rattle.sky_base_scope.specs.Plain as plain
use Rattle.sky_base_forms.proofs.given.compared_given.Goals as goal

pub returns-clause-answer : goal.returns-clause-answer
returns-clause-answer c = λ rows. c.give_exact.ensures.answer (op.compare (order_view c.args.how) (view c.args.a.now) (view c.args.b.now))
    c.compared.ensures.answer rows
