use Rattle.sky_base.specs.Val.{no_pairs}
use Rattle.sky_base.specs.Op as op
use Rattle.sky_base.specs.Eval as run
use Rattle.sky_base_scope.specs.Plain as plain
use Rattle.sky_base_forms.proofs.given.dict_given.Goals as goal

pub returns-clause-answer : goal.returns-clause-answer
returns-clause-answer c = λ rows. c.give.ensures.answer (op.dict_from (plain.items c.args.parts.now) no_pairs) c.dictionary.ensures.answer rows
