-- One name more.
use Rattle.std.specs.Map.Iter.{deref_pair}
use Rattle.std.proofs.lemmas.Map.Iter.{rest_all, rest_more}
use Rattle.ciel_look_tasks.specs.Objects.{takes_from}
use Rattle.ciel_look_tasks.proofs.ObjectSteps.{names_end, names_next}
use Rattle.ciel_look_tasks.proofs.places.lost_names.Goals as goal

pub loop-name-preserved : goal.loop-name-preserved
loop-name-preserved c =
    let l = c.loop-name in
    names_next (takes_from c.args.worker c.args.gone.now) c.args.at.now.entries l.name-iterator c.next.new.self _ _ c.as_slice.result.now l.names.items _
    (rest_more deref_pair l.name-iterator c.next.new.self c.next.result (c.in-Some.name, c.in-Some.places) c.in-Some.is c.next.ensures.steps)
    c.as_slice.ensures.value c.in_ok-add_lost.ensures.added l.invariant

pub returns-clause-names : goal.returns-clause-names
returns-clause-names c =
    let l = c.loop-name in
    names_end (takes_from c.args.worker c.args.gone.now) c.args.at.now.entries l.name-iterator l.names.items
    (rest_all deref_pair l.name-iterator c.next.new.self c.next.result c.in-None.is c.next.ensures.steps) l.invariant
