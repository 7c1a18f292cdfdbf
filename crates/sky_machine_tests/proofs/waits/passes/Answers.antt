use Rattle.std.proofs.Common.{sym, subst}
use Rattle.sky_machine.specs.Onward.{AnswersSound}
use Rattle.sky_machine_tests.proofs.waits.passes.Goals as goal

pub resumed-requires-clause-answers : goal.resumed-requires-clause-answers
resumed-requires-clause-answers c =
    subst (AnswersSound c.args.script.now.code) (sym c.as_slice.ensures.value) (c.in_ok-given.ensures c.args.script.now.code)
