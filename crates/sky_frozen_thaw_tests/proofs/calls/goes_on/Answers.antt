use Rattle.std.proofs.Common.{sym, subst}
use Rattle.sky_machine.specs.Onward.{AnswersSound}
use Rattle.sky_frozen_thaw_tests.proofs.calls.goes_on.Goals as goal

pub resume-requires-clause-answers : goal.resume-requires-clause-answers
resume-requires-clause-answers c =
    let sc = c.args.script.now.code in
    subst (AnswersSound sc) (sym c.as_slice.ensures.value) (c.in_ok-given.ensures sc)
