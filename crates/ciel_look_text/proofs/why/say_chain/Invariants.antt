-- What is left of the names.
use Rattle.std.proofs.Common.{codes}
use Rattle.ciel_look_tasks.specs.Known.{knowns}
use Rattle.ciel_look_text.specs.Words.{named}
use Rattle.ciel_look_text.proofs.Saying.{LeftOf}
use Rattle.ciel_look_text.proofs.why.say_chain.Given as goal

abbrev pub invariant-loop-name : goal.invariant-loop-name
invariant-loop-name l =
    LeftOf (named (knowns l.scene.known.all.items)) (codes "show result waits for ") (codes ", that waits for ") l.initial.line l.names l.first l.line l.name-index
