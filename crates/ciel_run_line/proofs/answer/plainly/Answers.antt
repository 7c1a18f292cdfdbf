-- The numbers of the interpreter's limits.
use Rattle.sky_plain.specs.Settle.{most_open}
use Rattle.sky_base_known.specs.Walk.{most_rows}
use Rattle.ciel_run_line.proofs.answer.plainly.Goals as goal

pub returns-in-Ok-TooMany-clause-none : goal.returns-in-Ok-TooMany-clause-none
unfolding most_rows
returns-in-Ok-TooMany-clause-none g c = rw c.in-Ok-TooMany.field-0-is at c.in-Ok-TooMany.ensures.answer

pub returns-in-Ok-TooDeepPlain-clause-none : goal.returns-in-Ok-TooDeepPlain-clause-none
unfolding most_open
returns-in-Ok-TooDeepPlain-clause-none g c = rw c.in-Ok-TooDeepPlain.field-0-is at c.in-Ok-TooDeepPlain.ensures.answer
