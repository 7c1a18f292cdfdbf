use Rattle.ciel_log_fits.proofs.Places.{given_as_stack, given_by_name, not_given}
use Rattle.ciel_log_fits.proofs.given.is_given_at.Goals as goal

pub returns-then-brings_from-clause-yes : goal.returns-then-brings_from-clause-yes
returns-then-brings_from-clause-yes c = λ t digest.
    given_by_name c.args.order.now c.args.name.now digest c.args.worker (c.brings_from.ensures.yes c.if-brings_from.true)

pub returns-clause-yes : goal.returns-clause-yes
returns-clause-yes c = λ t digest.
    given_as_stack c.args.order.now c.args.name.now digest c.args.worker (c.has_stack_at.ensures.yes t digest)

pub returns-clause-no : goal.returns-clause-no
returns-clause-no c = λ t digest.
    not_given c.args.order.now c.args.name.now digest c.args.worker (c.brings_from.ensures.no c.if-brings_from.false)
    (c.has_stack_at.ensures.no t digest)
