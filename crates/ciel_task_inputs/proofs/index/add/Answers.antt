use Rattle.std.proofs.Common.{sym, ◌∙◌}
use Rattle.ciel_task_inputs.proofs.Indexes.{added_new, added_old}
use Rattle.ciel_task_inputs.proofs.index.add.Goals as goal

pub returns-then-contains_key : goal.returns-then-contains_key
returns-then-contains_key c =
    added_old c.args.index.now c.args.name.now c.args.place (sym c.contains_key.ensures ∙ c.if-contains_key.true)

pub returns-in-Ok : goal.returns-in-Ok
returns-in-Ok c =
    added_new c.args.index.now c.insert.new.self c.args.name.now c.args.place c.in-Ok.ensures.updates
    (sym c.contains_key.ensures ∙ c.if-contains_key.false)
