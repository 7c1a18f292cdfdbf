-- The threads that are shared are few, and what is begun on while it is made is of the executors over lines.
use Rattle.ciel_run_logged.specs.Kinds.{IsFor}
use Rattle.ciel_run_line.proofs.Shared.{are_for, few_threads}
use Rattle.ciel_run_line.proofs.answer.hands_for.Goals as goal

pub of-requires : goal.of-requires
of-requires g c = few_threads c.args.line.now c.requires.line

pub returns : goal.returns
returns g c = record {
  hands = are_for IsFor (g.K.Kit.gives c.args.kit.now) c.args.line.now.stream c.of.result c.requires.streams c.of.ensures.fits c.of.ensures.every;
}
