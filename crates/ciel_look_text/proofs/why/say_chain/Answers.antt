-- One name more.
use Rattle.std.proofs.Common.{arith, codes}
use Rattle.ciel_look_tasks.specs.Known.{knowns}
use Rattle.ciel_look_text.specs.Words.{named}
use Rattle.ciel_look_text.proofs.Saying.{of_all, of_next}
use Rattle.ciel_look_text.proofs.why.say_chain.Goals as goal

pub loop-name-init : goal.loop-name-init
loop-name-init c = λ new h. h

pub loop-name-preserved : goal.loop-name-preserved
loop-name-preserved c =
    let l = c.loop-name in
    of_next (named (knowns c.args.scene.now.known.all.items)) (codes "show result waits for ") (codes ", that waits for ") c.args.line.now c.args.names.now
    l.first l.line _ _ l.name-index c.name-item.result (omega arith) c.name-item.is l.invariant c.in_ok-say_lead.ensures.said
    c.in_ok-say_name.ensures.said

pub returns : goal.returns
returns c =
    let l = c.loop-name in
    record {
      said = of_all (named (knowns c.args.scene.now.known.all.items)) (codes "show result waits for ") (codes ", that waits for ") c.args.line.now
          c.args.names.now l.first l.line l.name-index (omega arith) l.invariant;
    }
