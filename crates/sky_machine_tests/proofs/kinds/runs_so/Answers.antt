use Rattle.std.proofs.Common.{sym, subst}
use Rattle.sky_machine.specs.Onward.{AnswersSound}
use Rattle.sky_machine_tests.proofs.kinds.runs_so.Goals as goal

pub ends-requires-clause-answers : goal.ends-requires-clause-answers
ends-requires-clause-answers c =
    subst (AnswersSound c.over-numbered.result.code) (sym c.as_slice.ensures.value) (c.in_ok-given.ensures c.over-numbered.result.code)
