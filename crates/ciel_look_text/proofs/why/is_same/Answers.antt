-- Of the root task, or of another.
use Rattle.std.proofs.Common.{ap, sym, ◌∙◌}
use Rattle.ciel_look_tasks.specs.Tasks.{same_task}
use Rattle.ciel_look_text.proofs.why.is_same.Goals as goal

pub returns-in-Show : goal.returns-in-Show
returns-in-Show c = c.is_root.ensures ∙ ap (same_task c.args.one.now) (sym c.in-Show.is)

pub returns-in-Of : goal.returns-in-Of
returns-in-Of c = c.is_own.ensures ∙ ap (same_task c.args.one.now) (sym c.in-Of.is)
