-- The description has its name.
use Rattle.std.proofs.Common.{ap, ◌∙◌}
use Rattle.ciel_look_tasks.specs.Known.{knowns, with_known}
use Rattle.ciel_look_tasks.proofs.KnownSteps.{view_named}
use Rattle.ciel_look_tasks.proofs.OutputSteps.{outputs_learned}
use Rattle.ciel_look_tasks.proofs.book.Book.learn.Goals as goal

pub returns-clause-known : goal.returns-clause-known
returns-clause-known c =
    c.in_ok-learn.ensures.known
    ∙ ap (with_known (knowns c.args.self.now.known.all.items))
    (view_named c.in_ok-one.one c.args.self.now.short c.args.desc c.in_ok-one.ensures.kind c.in_ok-one.ensures.desc)

pub returns-clause-made : goal.returns-clause-made
returns-clause-made c = λ h. c.in_ok-learn.ensures.made c.args.self.now.short c.in_ok-one.ensures.kind h

pub returns-clause-outputs : goal.returns-clause-outputs
returns-clause-outputs c =
    let m = c.args.self.now in
    λ ds. outputs_learned m.short c.in_ok-one.one.short c.args.desc c.in_ok-one.one.desc m.outputs c.note_output.new.names ds c.in_ok-one.ensures.kind c.in_ok-one.ensures.desc
    (c.in_ok-note_output.ensures.noted ds)
