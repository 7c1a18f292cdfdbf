-- One name more.
use Rattle.std.proofs.Common.{arith}
use Rattle.ciel_look_text.proofs.Stepping.{names_begun, names_left, names_put}
use Rattle.ciel_look_text.proofs.search.names_from.Goals as goal

pub loop-step-init : goal.loop-step-init
loop-step-init c = names_begun c.args.steps.now _ c.args.place c.new-names.ensures.items

pub loop-step-preserved : goal.loop-step-preserved
loop-step-preserved c =
    let l = c.loop-step in
    names_put c.args.steps.now l._step l.at c.in_ok-at.at l.names.items c.put_name.new.names.items c.args.place (omega arith) c.in_ok-at.ensures.put l.invariant

pub returns : goal.returns
returns c =
    let l = c.loop-step in
    record { names = names_left c.args.steps.now l._step l.at l.names.items c.args.place (omega arith) l.invariant }
